-- The tokens of a text fit.
use Rattle.std.proofs.Common.{◌≡◌, ℕ, ◌+◌, ◌-◌, ◌/◌, ◌%◌, ◌<◌, ◌≤◌, ◌⊎◌, inl, inr, ◌==◌, ◌&&◌, nat_le, nat_lt, Bool, true, false, cond, List, [], ◌∷◌, ◌++◌, Option, Some, None, length, map, chars, IsUtf8, codes, bytes_eq, encode_utf8, encode_utf8_all, refl, sym, ap, subst, arith, length-append}
use Rattle.std.proofs.lemmas.Bool.{and_parts, and_from, leb-true, ltb-true}
use Rattle.std.proofs.lemmas.Str.{chars-encodes, scalars-chars}
use Rattle.std.proofs.Math.Utf8.{scalar, scalars, encode, scalar_cases}
use Rattle.std.specs.Char.{len_utf8}
use Rattle.lam_lexer.specs.declared.token.Token.{Token}
use Rattle.lam_lexer.specs.declared.token.TokenKind.{TokenKind}
use Rattle.lam_lexer.specs.declared.token.TokenKind.TheVariants as Kind
use Rattle.lam_lexer.specs.declared.start.Start.{Start}
use Rattle.lam_lexer.specs.Characters.{is_digit, starts_name, continues_name, is_space, run, past, first}
use Rattle.lam_lexer.specs.Text.{letter, hex_value, Part, end_quote, means, bad_escape, no_end, hex_part, letter_part, after_x, after_backslash, part, room, Means, ends, goes_on}
use Rattle.lam_lexer.specs.Lexed.{one_mark, two_marks, marks, start, reserved, kind_or_name, word_kind, Lexes, a_space, a_comment, a_name, a_number, a_text, a_mark, a_long_mark, LexedAt, at_end, then_on}
use Rattle.lam_print.specs.Law.{all_continue, is_identifier, AllBytes, Fits, AllFit, kind_of, TokensFit}

-- a choice has what both branches have
either : {X : Type 0} (P : X → Type 0) (b : Bool) (x y : X) → (b ≡ true → P x) → P y → P (cond b x y)
either P true x y h g = h refl
either P false x y h g = g

-- ---- characters

run_scalars : (p : ℕ → Bool) (cs : List ℕ) → scalars cs ≡ true → scalars (run p cs) ≡ true
run_scalars p [] h = refl
run_scalars p (c ∷ cs) h =
    let q = and_parts (scalar c) (scalars cs) h in
    either (λ (xs : List ℕ). scalars xs ≡ true) (p c) (c ∷ run p cs) [] (λ _. and_from (scalar c) (scalars (run p cs)) q.0 (run_scalars p cs q.1)) refl

past_scalars : (p : ℕ → Bool) (cs : List ℕ) → scalars cs ≡ true → scalars (past p cs) ≡ true
past_scalars p [] h = refl
past_scalars p (c ∷ cs) h =
    let q = and_parts (scalar c) (scalars cs) h in
    either (λ (xs : List ℕ). scalars xs ≡ true) (p c) (past p cs) (c ∷ cs) (λ _. past_scalars p cs q.1) h

run_continues : (cs : List ℕ) → all_continue (run continues_name cs) ≡ true
run_continues [] = refl
run_continues (c ∷ cs) =
    either (λ (xs : List ℕ). all_continue xs ≡ true) (continues_name c) (c ∷ run continues_name cs) [] (λ q. and_from (continues_name c) (all_continue (run continues_name cs)) q (run_continues cs)) refl

-- ---- what a character begins

-- a mark that fits, or a name that begins as one
abbrev Suits : ℕ → Start → Type 0
Suits c (Start.Mark k) = Fits k
Suits c (Start.LongMark k) = Fits k
Suits c Start.Name = starts_name c ≡ true
Suits c _ = Unit {0}

mark_suits : (c : ℕ) (b : Bool) (k : TokenKind) (other : Start) → Fits k → Suits c other → Suits c (cond b (Start.Mark k) other)
mark_suits c true k other f h = f
mark_suits c false k other f h = h

long_suits : (c : ℕ) (b : Bool) (k : TokenKind) (other : Start) → Fits k → Suits c other → Suits c (cond b (Start.LongMark k) other)
long_suits c true k other f h = f
long_suits c false k other f h = h

one_suits : (c : ℕ) → Suits c (one_mark c)
one_suits c =
    mark_suits c (c == 123) Kind.BraceOpen _ tt
    (mark_suits c (c == 125) Kind.BraceClose _ tt
    (mark_suits c (c == 40) Kind.ParenOpen _ tt
    (mark_suits c (c == 41) Kind.ParenClose _ tt
    (mark_suits c (c == 91) Kind.BracketOpen _ tt
    (mark_suits c (c == 93) Kind.BracketClose _ tt
    (mark_suits c (c == 44) Kind.Comma _ tt
    (mark_suits c (c == 59) Kind.Semicolon _ tt
    (mark_suits c (c == 58) Kind.Colon _ tt
    (mark_suits c (c == 46) Kind.Dot _ tt
    (mark_suits c (c == 61) Kind.Assign _ tt
    (mark_suits c (c == 60) Kind.Less _ tt
    (mark_suits c (c == 62) Kind.Greater _ tt
    (mark_suits c (c == 43) Kind.Plus _ tt
    (mark_suits c (c == 45) Kind.Minus _ tt
    (mark_suits c (c == 42) Kind.Star _ tt
    (mark_suits c (c == 47) Kind.Slash _ tt
    (mark_suits c (c == 37) Kind.Percent _ tt
    (mark_suits c (c == 33) Kind.Not Start.Nothing tt tt))))))))))))))))))

two_suits : (c d : ℕ) → Suits c (two_marks c d)
two_suits c d =
    either (Suits c) (c == 47 && d == 47) Start.Comment _ (λ _. tt)
    (long_suits c (c == 61 && d == 61) Kind.Equal _ tt
    (long_suits c (c == 33 && d == 61) Kind.NotEqual _ tt
    (long_suits c (c == 60 && d == 61) Kind.LessEqual _ tt
    (long_suits c (c == 62 && d == 61) Kind.GreaterEqual _ tt
    (long_suits c (c == 38 && d == 38) Kind.And _ tt
    (long_suits c (c == 124 && d == 124) Kind.Or (one_mark c) tt (one_suits c)))))))

marks_suit : (c : ℕ) (next : Option ℕ) → Suits c (marks c next)
marks_suit c None = one_suits c
marks_suit c (Some d) = two_suits c d

start_suits : (c : ℕ) (next : Option ℕ) → Suits c (start c next)
start_suits c next =
    either (Suits c) (is_space c) Start.Space _ (λ _. tt)
    (either (Suits c) (starts_name c) Start.Name _ (λ q. q)
    (either (Suits c) (is_digit c) Start.Number _ (λ _. tt)
    (either (Suits c) (c == 34) Start.Text (marks c next) (λ _. tt) (marks_suit c next))))

-- ---- names

abbrev WordFits : Option TokenKind → Type 0
WordFits None = Unit {0}
WordFits (Some k) = Fits k

word_fits : (b : Bool) (k : TokenKind) (other : Option TokenKind) → Fits k → WordFits other → WordFits (cond b (Some k) other)
word_fits true k other f h = f
word_fits false k other f h = h

reserved_fit : (name : List ℕ) → WordFits (reserved name)
reserved_fit name =
    word_fits (bytes_eq name (codes "class")) Kind.Class _ tt
    (word_fits (bytes_eq name (codes "fn")) Kind.Fn _ tt
    (word_fits (bytes_eq name (codes "let")) Kind.Let _ tt
    (word_fits (bytes_eq name (codes "if")) Kind.If _ tt
    (word_fits (bytes_eq name (codes "else")) Kind.Else _ tt
    (word_fits (bytes_eq name (codes "while")) Kind.While _ tt
    (word_fits (bytes_eq name (codes "return")) Kind.Return _ tt
    (word_fits (bytes_eq name (codes "throw")) Kind.Throw _ tt
    (word_fits (bytes_eq name (codes "sync")) Kind.Sync _ tt
    (word_fits (bytes_eq name (codes "region")) Kind.Region _ tt
    (word_fits (bytes_eq name (codes "catch")) Kind.Catch _ tt
    (word_fits (bytes_eq name (codes "new")) Kind.New _ tt
    (word_fits (bytes_eq name (codes "spawn")) Kind.Spawn _ tt
    (word_fits (bytes_eq name (codes "true")) Kind.True _ tt
    (word_fits (bytes_eq name (codes "false")) Kind.False _ tt
    (word_fits (bytes_eq name (codes "null")) Kind.Null _ tt
    (word_fits (bytes_eq name (codes "int")) Kind.Int _ tt
    (word_fits (bytes_eq name (codes "bool")) Kind.Bool _ tt
    (word_fits (bytes_eq name (codes "bytes")) Kind.Bytes _ tt
    (word_fits (bytes_eq name (codes "tag")) Kind.Tag _ tt
    (word_fits (bytes_eq name (codes "label")) Kind.Label _ tt
    (word_fits (bytes_eq name (codes "caps")) Kind.Caps _ tt
    (word_fits (bytes_eq name (codes "file")) Kind.File _ tt
    (word_fits (bytes_eq name (codes "dir")) Kind.Dir _ tt
    (word_fits (bytes_eq name (codes "pipe")) Kind.Pipe _ tt
    (word_fits (bytes_eq name (codes "thread")) Kind.Thread None tt tt)))))))))))))))))))))))))

word_or_name_fits : (name : List ℕ) (o : Option TokenKind) → reserved name ≡ o → WordFits o → is_identifier (chars name) ≡ true → IsUtf8 name → Fits (kind_or_name o name)
word_or_name_fits name None e w i u = (i, u, e)
word_or_name_fits name (Some k) e w i u = w

name_fits : (c : ℕ) (cs : List ℕ) → scalars (c ∷ cs) ≡ true → starts_name c ≡ true → Fits (word_kind (encode_utf8_all (c ∷ run continues_name cs)))
name_fits c cs h s =
    let q = and_parts (scalar c) (scalars cs) h in
    let word = c ∷ run continues_name cs in
    let valid : scalars word ≡ true = and_from (scalar c) (scalars (run continues_name cs)) q.0 (run_scalars continues_name cs q.1) in
    let name = encode_utf8_all word in
    let i : is_identifier word ≡ true = and_from (starts_name c) (all_continue (run continues_name cs)) s (run_continues cs) in
    word_or_name_fits name (reserved name) refl (reserved_fit name) (subst (λ (xs : List ℕ). is_identifier xs ≡ true) (sym (chars-encodes word valid)) i) (word, (valid, refl))

-- ---- texts

both_bytes : (xs ys : List ℕ) → AllBytes xs → AllBytes ys → AllBytes (xs ++ ys)
both_bytes [] ys h g = g
both_bytes (x ∷ xs) ys h g = (h.0, both_bytes xs ys h.1 g)

low : (x : ℕ) → 128 + x % 64 < 256
low x = omega arith

below_all : (c : ℕ) → (c < 55296) ⊎ ((57344 ≤ c) × (c < 1114112)) → c < 1114112
below_all c (inl h) = omega arith
below_all c (inr h) = h.1

encode_bytes : (c : ℕ) → scalar c ≡ true → AllBytes (encode_utf8 c)
unfolding encode
encode_bytes c q =
    let high = below_all c (scalar_cases c q) in
    either AllBytes (nat_lt c 128) (c ∷ []) _ (λ p. (omega (arith, ltb-true c 128 p), tt))
    (either AllBytes (nat_lt c 2048) ((192 + c / 64) ∷ (128 + c % 64) ∷ []) _ (λ p. (omega (arith, ltb-true c 2048 p), (low c, tt)))
    (either AllBytes (nat_lt c 65536) ((224 + c / 4096) ∷ (128 + c / 64 % 64) ∷ (128 + c % 64) ∷ []) ((240 + c / 262144) ∷ (128 + c / 4096 % 64) ∷ (128 + c / 64 % 64) ∷ (128 + c % 64) ∷ []) (λ p. (omega (arith, ltb-true c 65536 p), (low (c / 64), (low c, tt))))
    (omega (arith, high), (low (c / 4096), (low (c / 64), (low c, tt))))))

abbrev Below : ℕ → Option ℕ → Type 0
Below n None = Unit {0}
Below n (Some x) = x < n

below : (n : ℕ) (b : Bool) (x : ℕ) (other : Option ℕ) → (b ≡ true → x < n) → Below n other → Below n (cond b (Some x) other)
below n true x other f h = f refl
below n false x other f h = h

up_to : (a b c : ℕ) → (nat_le a c && nat_le c b) ≡ true → c ≤ b
up_to a b c p = leb-true c b (and_parts (nat_le a c) (nat_le c b) p).1

hex_below : (c : ℕ) → Below 16 (hex_value c)
hex_below c =
    below 16 (is_digit c) (c - 48) _ (λ p. omega (arith, up_to 48 57 c p))
    (below 16 (nat_le 97 c && nat_le c 102) (c - 87) _ (λ p. omega (arith, up_to 97 102 c p))
    (below 16 (nat_le 65 c && nat_le c 70) (c - 55) None (λ p. omega (arith, up_to 65 70 c p)) tt))

letter_below : (c : ℕ) → Below 256 (letter c)
letter_below c =
    below 256 (c == 110) 10 _ (λ _. omega arith)
    (below 256 (c == 116) 9 _ (λ _. omega arith)
    (below 256 (c == 34) 34 _ (λ _. omega arith)
    (below 256 (c == 92) 92 None (λ _. omega arith) tt)))

-- a part of bytes, with characters left behind it
abbrev PartFits : Part → Type 0
PartFits (end_quote rest) = scalars rest ≡ true
PartFits (means bytes size rest) = AllBytes bytes × (scalars rest ≡ true)
PartFits bad_escape = Unit {0}
PartFits no_end = Unit {0}

hex_part_fits : (h l : Option ℕ) (rest : List ℕ) → Below 16 h → Below 16 l → scalars rest ≡ true → PartFits (hex_part h l rest)
hex_part_fits (Some x) (Some y) rest a b v = ((omega arith, tt), v)
hex_part_fits (Some x) None rest a b v = tt
hex_part_fits None l rest a b v = tt

letter_part_fits : (o : Option ℕ) (rest : List ℕ) → Below 256 o → scalars rest ≡ true → PartFits (letter_part o rest)
letter_part_fits (Some b) rest h v = ((h, tt), v)
letter_part_fits None rest h v = tt

scalars_tail : (c : ℕ) (cs : List ℕ) → scalars (c ∷ cs) ≡ true → scalars cs ≡ true
scalars_tail c cs h = (and_parts (scalar c) (scalars cs) h).1

after_x_fits : (cs : List ℕ) → scalars cs ≡ true → PartFits (after_x cs)
after_x_fits [] v = tt
after_x_fits (h ∷ []) v = tt
after_x_fits (h ∷ l ∷ rest) v = hex_part_fits (hex_value h) (hex_value l) rest (hex_below h) (hex_below l) (scalars_tail l rest (scalars_tail h (l ∷ rest) v))

after_backslash_fits : (cs : List ℕ) → scalars cs ≡ true → PartFits (after_backslash cs)
after_backslash_fits [] v = tt
after_backslash_fits (c ∷ rest) v =
    let w = scalars_tail c rest v in
    either PartFits (c == 120) (after_x rest) (letter_part (letter c) rest) (λ _. after_x_fits rest w) (letter_part_fits (letter c) rest (letter_below c) w)

part_fits : (cs : List ℕ) → scalars cs ≡ true → PartFits (part cs)
part_fits [] v = tt
part_fits (c ∷ rest) v =
    let w = and_parts (scalar c) (scalars rest) v in
    either PartFits (c == 34) (end_quote rest) _ (λ _. w.1)
    (either PartFits (c == 92) (after_backslash rest) _ (λ _. after_backslash_fits rest w.1)
    (either PartFits (c == 10) no_end (means (encode_utf8 c) (len_utf8 c) rest) (λ _. tt) (encode_bytes c w.0, w.1)))

text_fits : {n size : ℕ} {cs bytes rest : List ℕ} → Means n cs bytes size rest → scalars cs ≡ true → n ≤ room → AllBytes bytes × (n + length bytes ≤ room) × (scalars rest ≡ true)
text_fits {n} {cs = cs} {rest = rest} (ends p) v l =
    let w : PartFits (end_quote rest) = subst PartFits p (part_fits cs v) in
    (tt, omega arith, w)
text_fits {n} {cs = cs} (goes_on {size = size} {between = between} {bytes = bytes} {others = others} p small h) v l =
    let w : PartFits (means bytes size between) = subst PartFits p (part_fits cs v) in
    let r = text_fits h w.1 small in
    (both_bytes bytes others w.0 r.0, omega (arith, length-append bytes others, r.1), r.2)

-- ---- whole texts

reads_fit : {at c : ℕ} {s : Start} {cs : List ℕ} {to : ℕ} {rest : List ℕ} {ts : List Token} → Lexes at s (c ∷ cs) ts to rest → Suits c s → scalars (c ∷ cs) ≡ true → AllFit (map kind_of ts) × (scalars rest ≡ true)
reads_fit {c = c} {cs = cs} a_space s v = (tt, scalars_tail c cs v)
reads_fit {c = c} {cs = cs} a_comment s v = (tt, past_scalars _ cs (scalars_tail c cs v))
reads_fit {c = c} {cs = cs} a_name s v = ((name_fits c cs v s, tt), past_scalars continues_name cs (scalars_tail c cs v))
reads_fit {c = c} {cs = cs} (a_number small alone) s v = ((small, tt), past_scalars is_digit cs (scalars_tail c cs v))
reads_fit {c = c} {cs = cs} (a_text m) s v = let r = text_fits m (scalars_tail c cs v) (omega arith) in (((r.0, omega (arith, r.1)), tt), r.2)
reads_fit {c = c} {cs = cs} a_mark s v = ((s, tt), scalars_tail c cs v)
reads_fit {c = c} (a_long_mark {d = d} {cs = cs}) s v = ((s, tt), scalars_tail d cs (scalars_tail c (d ∷ cs) v))

abbrev FitBeforeEnd : List Token → Type 0
FitBeforeEnd ts = (before : List TokenKind) × (map kind_of ts ≡ before ++ Kind.End ∷ []) × AllFit before

before_end : (ts us : List Token) → AllFit (map kind_of ts) → FitBeforeEnd us → FitBeforeEnd (ts ++ us)
before_end [] us f h = h
before_end (t ∷ ts) us f h =
    let r = before_end ts us f.1 h in
    (t.kind ∷ r.0, ap (λ (ks : List TokenKind). t.kind ∷ ks) r.1, (f.0, r.2))

lexed_fit : {at : ℕ} {cs : List ℕ} {ts : List Token} → LexedAt at cs ts → scalars cs ≡ true → FitBeforeEnd ts
lexed_fit at_end v = ([], refl, tt)
lexed_fit (then_on {c = c} {cs = cs} {tokens = ts} {others = us} r h) v =
    let f = reads_fit r (start_suits c (first cs)) v in
    before_end ts us f.0 (lexed_fit h f.1)

-- each token of a text before its end is one that a text has
pub tokens_fit : TokensFit
tokens_fit text u ts h = lexed_fit h (scalars-chars text u)
