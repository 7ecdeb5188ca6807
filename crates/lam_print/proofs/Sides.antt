-- What single characters are, and which tokens join.
use Rattle.std.proofs.Common.{◌≡◌, ℕ, ◌<◌, ◌≤◌, ◌⊎◌, inl, inr, ◌==◌, ◌&&◌, ◌||◌, nat_le, Bool, true, false, not, cond, List, [], ◌∷◌, Option, refl, sym, ap, ◌∙◌, arith}
use Rattle.std.proofs.lemmas.Bool.{both_ways, ne_eqb, leb-true, and_parts, and_left, or_cases, lt-leb}
use Rattle.std.specs.Char.{is_ascii_alphabetic, is_ascii_alphanumeric}
use Rattle.unicode_ident.specs.Ident.{is_xid_start, is_xid_continue}
use Rattle.unicode_ident.proofs.IdentLemmas.{is_xid_start-ascii, is_xid_continue-ascii, is_xid_start-is_xid_continue}
use Rattle.lam_lexer.specs.declared.token.TokenKind.{TokenKind}
use Rattle.lam_lexer.specs.declared.token.TokenKind.TheVariants as Kind
use Rattle.lam_lexer.specs.declared.start.Start.{Start}
use Rattle.lam_lexer.specs.Characters.{is_space, is_digit, starts_name, continues_name, goes_on}
use Rattle.lam_lexer.specs.Lexed.{start, marks}
use Rattle.lam_lexer.proofs.Runs.{at_true, at_false}
use Rattle.lam_print.specs.Pieces.{Piece, token, blank, line, spelling}

pub or_false : (x y : Bool) → x ≡ false → y ≡ false → (x || y) ≡ false
or_false x y h k = ap (λ (x : Bool). x || y) h ∙ k

pub or_true_left : (x y : Bool) → x ≡ true → (x || y) ≡ true
or_true_left x y h = ap (λ (x : Bool). x || y) h

pub or_true_right : (x y : Bool) → y ≡ true → (x || y) ≡ true
or_true_right true y h = refl
or_true_right false y h = h

pub start_continues : (c : ℕ) → starts_name c ≡ true → continues_name c ≡ true
start_continues c h = pick (or_cases (is_xid_start c) (c == 95) h)
  where
    pick : (is_xid_start c ≡ true) ⊎ ((c == 95) ≡ true) → continues_name c ≡ true
    pick (inl g) = or_true_left (is_xid_continue c) (c == 95) (is_xid_start-is_xid_continue c g)
    pick (inr g) = or_true_right (is_xid_continue c) (c == 95) g

-- a character that passes is none that does not
pub another : (p : ℕ → Bool) (c d : ℕ) → p c ≡ true → p d ≡ false → (c == d) ≡ false
another p c d h k = ne_eqb c d (λ e. both_ways (p d) k (sym (ap p e) ∙ h))

pub no_start : (c : ℕ) → c < 128 → is_ascii_alphabetic c ≡ false → (c == 95) ≡ false → starts_name c ≡ false
no_start c h a u = or_false (is_xid_start c) (c == 95) (is_xid_start-ascii c h ∙ a) u

pub no_continue : (c : ℕ) → c < 128 → is_ascii_alphanumeric c ≡ false → (c == 95) ≡ false → continues_name c ≡ false
no_continue c h a u = or_false (is_xid_continue c) (c == 95) (is_xid_continue-ascii c h ∙ or_false (is_ascii_alphanumeric c) (c == 95) a u) u

digit_range : (c : ℕ) → is_digit c ≡ true → (48 ≤ c) × (c ≤ 57)
digit_range c h = let p = and_parts (nat_le 48 c) (nat_le c 57) h in (leb-true 48 c p.0, leb-true c 57 p.1)

digit_no_start : (c : ℕ) → is_digit c ≡ true → starts_name c ≡ false
digit_no_start c h =
    let r = digit_range c h in
    no_start c (omega (arith, r.0, r.1))
    (or_false (nat_le 65 c && nat_le c 90) (nat_le 97 c && nat_le c 122) (and_left (nat_le 65 c) (nat_le c 90) (lt-leb 65 c (omega (arith, r.1)))) (and_left (nat_le 97 c) (nat_le c 122) (lt-leb 97 c (omega (arith, r.1)))))
    (another is_digit c 95 h refl)

no_space : (p : ℕ → Bool) (c : ℕ) → p c ≡ true → p 32 ≡ false → p 9 ≡ false → p 13 ≡ false → p 10 ≡ false → is_space c ≡ false
no_space p c h a b d e =
    or_false (c == 32 || c == 9 || c == 13) (c == 10) (or_false (c == 32 || c == 9) (c == 13) (or_false (c == 32) (c == 9) (another p c 32 h a) (another p c 9 h b)) (another p c 13 h d)) (another p c 10 h e)

start_no_space : (c : ℕ) → starts_name c ≡ true → is_space c ≡ false
start_no_space c h = no_space starts_name c h (no_start 32 (omega arith) refl refl) (no_start 9 (omega arith) refl refl) (no_start 13 (omega arith) refl refl) (no_start 10 (omega arith) refl refl)

pub begins_name : (c : ℕ) (o : Option ℕ) → starts_name c ≡ true → start c o ≡ Start.Name
begins_name c o h = at_false (is_space c) _ _ (start_no_space c h) ∙ at_true (starts_name c) _ _ h

pub begins_number : (c : ℕ) (o : Option ℕ) → is_digit c ≡ true → start c o ≡ Start.Number
begins_number c o h = at_false (is_space c) _ _ (no_space is_digit c h refl refl refl refl) ∙ (at_false (starts_name c) _ _ (digit_no_start c h) ∙ at_true (is_digit c) _ _ h)

pub begins_mark : (c : ℕ) (o : Option ℕ) (s : Start) → is_space c ≡ false → is_digit c ≡ false → (c == 34) ≡ false → starts_name c ≡ false → marks c o ≡ s → start c o ≡ s
begins_mark c o s a b d e q = at_false (is_space c) _ _ a ∙ (at_false (starts_name c) _ _ e ∙ (at_false (is_digit c) _ _ b ∙ (at_false (c == 34) _ _ d ∙ q)))

pub begins_text : (o : Option ℕ) → start 34 o ≡ Start.Text
begins_text o = at_false (starts_name 34) _ _ (no_start 34 (omega arith) refl refl)

-- the sides of a token: of a word, of a mark that another may lengthen or that may lengthen another, or of neither
pub data Side : Type 0 where
  wordy half whole : Side

abbrev pub lower : ℕ → Bool
lower c = nat_le 97 c && nat_le c 122

-- a reserved word begins with a letter, and a mark does not
abbrev word_side : List ℕ → Side
word_side [] = whole
word_side (c ∷ cs) = cond (lower c) wordy whole

abbrev pub right : TokenKind → Side
right (Kind.Id x) = wordy
right (Kind.Number n) = wordy
right (Kind.Text bs) = whole
right Kind.Assign = half
right Kind.Less = half
right Kind.Greater = half
right Kind.Slash = half
right Kind.Not = half
right k = word_side (spelling k)

abbrev pub left : TokenKind → Side
left (Kind.Id x) = wordy
left (Kind.Number n) = wordy
left (Kind.Text bs) = whole
left Kind.Assign = half
left Kind.Slash = half
left Kind.Equal = half
left k = word_side (spelling k)

abbrev pub joins : Side → Side → Bool
joins wordy wordy = true
joins half half = true
joins _ _ = false

-- no two tokens stand side by side that may join, after what ends so
abbrev pub parted : Side → List Piece → Bool
parted s [] = true
parted s (token k ∷ ps) = not (joins s (left k)) && parted (right k) ps
parted s (blank ∷ ps) = parted whole ps
parted s (line n ∷ ps) = parted whole ps

-- what follows does not go on with what ends so
abbrev pub Calm : Side → List ℕ → Type 0
Calm wordy cs = (goes_on continues_name cs ≡ false) × (goes_on is_digit cs ≡ false)
Calm half cs = (goes_on (λ c. c == 61) cs ≡ false) × (goes_on (λ c. c == 47) cs ≡ false)
Calm whole cs = Unit {0}
