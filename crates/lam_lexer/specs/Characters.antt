-- Classes of characters, and the longest run of one.
use Rattle.std.specs.Prelude.{ℕ, ◌+◌, ◌-◌, ◌*◌, ◌==◌, ◌&&◌, ◌||◌, nat_le, Bool, false, not, cond, List, [], ◌∷◌, Option, Some, None}
use Rattle.unicode_ident.specs.Ident.{is_xid_start, is_xid_continue}

-- space, tab, carriage return, line feed
abbrev pub is_space : ℕ → Bool
is_space c = c == 32 || c == 9 || c == 13 || c == 10

abbrev pub is_digit : ℕ → Bool
is_digit c = nat_le 48 c && nat_le c 57

-- an identifier begins with an underscore or a character that Unicode calls a start
abbrev pub starts_name : ℕ → Bool
starts_name c = is_xid_start c || c == 95

abbrev pub continues_name : ℕ → Bool
continues_name c = is_xid_continue c || c == 95

-- all but the line feed
abbrev pub stays_on_line : ℕ → Bool
stays_on_line c = not (c == 10)

-- the longest front of such characters
abbrev pub run : (ℕ → Bool) → List ℕ → List ℕ
run p [] = []
run p (c ∷ cs) = cond (p c) (c ∷ run p cs) []

-- what is left behind it
abbrev pub past : (ℕ → Bool) → List ℕ → List ℕ
past p [] = []
past p (c ∷ cs) = cond (p c) (past p cs) (c ∷ cs)

abbrev pub first : List ℕ → Option ℕ
first [] = None
first (c ∷ cs) = Some c

-- whether the text goes on with such a character
abbrev pub goes_on : (ℕ → Bool) → List ℕ → Bool
goes_on p [] = false
goes_on p (c ∷ cs) = p c

-- the number that digits spell, after others that spell n
abbrev pub number_after : ℕ → List ℕ → ℕ
number_after n [] = n
number_after n (d ∷ ds) = number_after (n * 10 + (d - 48)) ds

abbrev pub number : List ℕ → ℕ
number ds = number_after 0 ds
