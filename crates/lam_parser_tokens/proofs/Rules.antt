-- The lemmas by which a function that reads a rule is proved.
-- A rule is begun with the body that the next token chooses, its symbols are taken one after another, and it is read.
-- At each place on the way, what stops at the next symbol stops the rule.
use Rattle.std.proofs.Common.{◌≡◌, ℕ, ◌+◌, ◌<◌, ◌≤◌, ◌⊎◌, inl, inr, Bool, true, false, cond, Option, Some, None, Result, Err, List, [], ◌∷◌, slice_get, refl, sym, ap, ◌∙◌, subst, arith, add-zero}
use Rattle.std.specs.Result.{IsErrAnd}
use Rattle.std.proofs.lemmas.Result.{err_from_is_err_and}
use Rattle.lam_grammar_laws.specs.Grammar.{mark, rule, pick, is_empty, production, enters, leaves}
use Rattle.lam_grammar_laws.specs.Texts.{limited}
use Rattle.lam_grammar_laws.specs.Stopping.{Stop, unexpected, too_deep, could, Stops, fits_next, begins_next, wrong, deep, sample, opens, inside}
use Rattle.lam_grammar_laws.proofs.Bodies.{chosen, picks_mark, picks_rule, picks_past_mark, picks_past_rule, empty_read}
use Rattle.lam_grammar_laws.proofs.Stages.{Stage, Goes, at_map, begin, begin_full, take_token, take_rule, take_maybe, finish, stop_rule, stop_mark, stop_rule_inside, stop_deep, goes_stop_mark, goes_stop_rule, goes_stop_deep}
use Rattle.lam_grammar_laws.proofs.Stages as stage
use Rattle.lam_lexer.specs.declared.token.Token.{Token}
use Rattle.lam_grammar.specs.Table.{Class, Rule, Sym, bodies, counts, assign_part, expr, equals}
use Rattle.lam_grammar.specs.Meaning.{Value, word, permits, act, is_place_value}
use Rattle.lam_grammar.specs.Program.{lam}
use Rattle.lam_grammar.specs.Examples.{examples, null, fills, of_kind}
use Rattle.lam_parser_tokens.specs.declared.marks.Mark.{Mark}
use Rattle.lam_parser_tokens.specs.declared.marks.Mark.TheVariants as mark_of
use Rattle.lam_parser_tokens.specs.declared.breaks.Break.{Break}
use Rattle.lam_parser_tokens.specs.declared.breaks.Break.TheVariants.{Unexpected, TooDeep, NoMemory}
use Rattle.lam_parser_tokens.specs.declared.breaks.Wanted.{Wanted}
use Rattle.lam_parser_tokens.specs.Classes.{class_of, fits_at, wanted_of, sample_of, is_barred}
use Rattle.lam_parser_tokens.specs.Reading.{Fails, Gives, Taken, Absent, IsDeep}

-- ---- breaks

-- the break says that reading comes to this
abbrev Says : Break → Stop Token → Type 0
Says (Unexpected at wanted) x = (x ≡ unexpected (is_barred wanted) at) ⊎ (x ≡ could at (sample_of wanted))
Says (TooDeep at) x = x ≡ too_deep at
Says NoMemory x = ⊥

abbrev Comes : (ℕ → Option Token) → List Sym → ℕ → ℕ → Stop Token → Type 0
Comes look p s i x = (before : Value) → Stops lam examples (limited lam) look p before s i x

moved : (look : ℕ → Option Token) (p : List Sym) (s i : ℕ) {x y : Stop Token} → x ≡ y → Comes look p s i y → Comes look p s i x
moved look p s i e h = subst (λ z. Comes look p s i z) (sym e) h

said : (look : ℕ → Option Token) (p : List Sym) (s i : ℕ) (b : Break) → Fails look p s i b → (x : Stop Token) → Says b x → Comes look p s i x
said look p s i (Unexpected at wanted) h x e = elim e [ inl u ↦ moved look p s i u h.0 | inr w ↦ moved look p s i w h.1 ]
said look p s i (TooDeep at) h x e = moved look p s i e h
said look p s i NoMemory h x e = absurd e

fails_by : (look : ℕ → Option Token) (p : List Sym) (s i : ℕ) (b : Break) → ((x : Stop Token) → Says b x → Comes look p s i x) → Fails look p s i b
fails_by look p s i (Unexpected at wanted) h = (h _ (inl refl), h _ (inr refl))
fails_by look p s i (TooDeep at) h = h _ refl
fails_by look p s i NoMemory h = tt

-- ---- one token

never_barred : (m : Mark) → is_barred (wanted_of m) ≡ false
never_barred mark_of.Name = refl
never_barred mark_of.Member = refl
never_barred mark_of.TypeWord = refl
never_barred _ = refl

own_sample : (m : Mark) → sample_of (wanted_of m) ≡ of_kind (class_of m).sample
own_sample mark_of.Name = refl
own_sample mark_of.Member = refl
own_sample mark_of.TypeWord = refl
own_sample _ = refl

pub mark_wrong : (look : ℕ → Option Token) (s i : ℕ) (m : Mark) (rest : List Sym) → fits_at m (look i) ≡ false → Fails look (mark (class_of m) ∷ rest) s i (Unexpected i (wanted_of m))
mark_wrong look s i m rest h = (
  moved look (mark (class_of m) ∷ rest) s i (ap (λ b. unexpected b i) (never_barred m)) (λ before. wrong h),
  moved look (mark (class_of m) ∷ rest) s i (ap (λ w. could i w) (own_sample m)) (λ before. sample),
)

pub mark_deep : (look : ℕ → Option Token) (s i : ℕ) (m : Mark) (w : Token) (rest : List Sym) → look i ≡ Some w → (class_of m).fits w.kind ≡ true → 128 < s → Fails look (mark (class_of m) ∷ rest) s i (TooDeep i)
mark_deep look s i m w rest l f d before = deep l f d

-- ---- the exit of a `?`

-- it returns the break that the call before it gave
pub broke : {T : Type 0} {b : Break} (r : Result T Break) → IsErrAnd r (λ e. e ≡ b) → r ≡ Err b
broke r h = let p = err_from_is_err_and r h in rw (p.1, p.2)

-- what was read, and what is read then
infixl 1 ◌▹◌
pub ◌▹◌ : {A B : Type 0} → A → (A → B) → B
a ▹ read = read a

-- ---- a rule that is read in part

-- What was read of the rule r from i on, where the sum was s, leaves the symbols `rest` at k, where the sum is u.
-- `done` puts the values that were read before those of the rest. A token that could stand at k has to be `ok`.
abbrev pub Part : (look : ℕ → Option Token) (r : Rule) (s i : ℕ) (rest : List Sym) (prev : Value → Value) (done : List Value → List Value) (k u : ℕ) (ok : Token → Type 0) → Type 0
Part look r s i rest prev done k u ok = Stage lam examples (limited lam) look r s i rest prev done k u ok

-- begin a rule that is never empty
pub begun : (look : ℕ → Option Token) (r : Rule) (s i : ℕ) {body : List Sym} → null r ≡ false → ((before : Value) → production lam r before (look i) ≡ Some body) → Part look r s i body (λ before. before) (λ vs. vs) i (enters lam r s) (λ w. w ≡ examples.first r)
begun look r s i {body} n p = begin lam examples (limited lam) look r s i body n p

-- begin one that may be empty, and is not
pub part_begun : (look : ℕ → Option Token) (r : Rule) (s i : ℕ) {body : List Sym} → ((before : Value) → production lam r before (look i) ≡ Some body) → Part look r s i body (λ before. before) (λ vs. vs) i (enters lam r s) (λ w. ⊥)
part_begun look r s i {body} p = begin_full lam examples (limited lam) look r s i body p

-- take a token that adds nothing to the sum
pub mark_taken : {tokens : List Token} {r : Rule} {s i k u : ℕ} {m : Mark} {w : Token} {rest : List Sym} {prev : Value → Value} {done : List Value → List Value} {ok : Token → Type 0} → Taken tokens u k m w → (class_of m).adds ≡ 0 → Part (slice_get tokens) r s i (mark (class_of m) ∷ rest) prev done k u ok → Part (slice_get tokens) r s i rest (λ before. word w) (λ vs. done (word w ∷ vs)) (k + 1) u (λ v. Unit {0})
mark_taken {tokens} {r} {s} {i} {k} {u} {m} {w} {rest} {done = done} t z g =
    let e : u + (class_of m).adds ≡ u = ap (λ n. u + n) z ∙ add-zero u in
    subst (λ n. Part (slice_get tokens) r s i rest (λ before. word w) (λ vs. done (word w ∷ vs)) (k + 1) n (λ v. Unit {0})) e (take_token lam examples (limited lam) (slice_get tokens) w g t.is t.fit t.within)

-- take a token that counts in the sum
pub counted_taken : {tokens : List Token} {r : Rule} {s i k u : ℕ} {m : Mark} {w : Token} {rest : List Sym} {prev : Value → Value} {done : List Value → List Value} {ok : Token → Type 0} → Taken tokens u k m w → (class_of m).adds ≡ 1 → Part (slice_get tokens) r s i (mark (class_of m) ∷ rest) prev done k u ok → Part (slice_get tokens) r s i rest (λ before. word w) (λ vs. done (word w ∷ vs)) (k + 1) (u + 1) (λ v. Unit {0})
counted_taken {tokens} {r} {s} {i} {k} {u} {m} {w} {rest} {done = done} t z g =
    subst (λ n. Part (slice_get tokens) r s i rest (λ before. word w) (λ vs. done (word w ∷ vs)) (k + 1) (u + n) (λ v. Unit {0})) z (take_token lam examples (limited lam) (slice_get tokens) w g t.is t.fit t.within)

-- take a rule that is not empty
pub rule_taken : {look : ℕ → Option Token} {r q : Rule} {s i k u m t : ℕ} {rest : List Sym} {prev : Value → Value} {done : List Value → List Value} {ok : Token → Type 0} {v : Value} → Gives look q u k v m t → k < m → Part look r s i (rule q ∷ rest) prev done k u ok → Part look r s i rest (λ before. v) (λ vs. done (v ∷ vs)) m t (λ w. examples.closes q w ≡ true)
rule_taken {look} h lt g = take_rule lam examples (limited lam) look g lt h

-- take one that may have been empty
pub maybe_taken : {look : ℕ → Option Token} {r q : Rule} {s i k u m t : ℕ} {rest : List Sym} {prev : Value → Value} {done : List Value → List Value} {ok : Token → Type 0} {v : Value} → Gives look q u k v m t → k ≤ m → Part look r s i (rule q ∷ rest) prev done k u ok → Part look r s i rest (λ before. v) (λ vs. done (v ∷ vs)) m t (λ w. ok w × (examples.closes q w ≡ true))
maybe_taken {look} h le g = take_maybe lam examples (limited lam) look g le h

-- the rule is read
pub rule_read : {look : ℕ → Option Token} {r : Rule} {s i k u : ℕ} {prev : Value → Value} {done : List Value → List Value} {ok : Token → Type 0} → Part look r s i [] prev done k u ok → Gives look r s i (act r (done [])) k (leaves lam r s u)
rule_read {look} g = finish lam examples (limited lam) look g

-- ---- where it stops

-- no token of the class is taken
pub mark_fails : {look : ℕ → Option Token} {r : Rule} {s i k u : ℕ} {c : Class} {rest : List Sym} {prev : Value → Value} {done : List Value → List Value} {ok : Token → Type 0} → Part look r s i (mark c ∷ rest) prev done k u ok → ok (examples.sample c) → (b : Break) → ((more : List Sym) → Fails look (mark c ∷ more) u k b) → Fails look (rule r ∷ []) s i b
mark_fails {look} {r} {s} {i} {k} {u} {c} {rest} g o b h = fails_by look (rule r ∷ []) s i b (λ x e. stop_mark lam examples (limited lam) look g o x (said look (mark c ∷ rest) u k b (h rest) x e))

-- the next rule is not read
pub rule_fails : {look : ℕ → Option Token} {r q : Rule} {s i k u : ℕ} {rest : List Sym} {prev : Value → Value} {done : List Value → List Value} {ok : Token → Type 0} → Part look r s i (rule q ∷ rest) prev done k u ok → ok (examples.first q) → (b : Break) → Fails look (rule q ∷ []) u k b → Fails look (rule r ∷ []) s i b
rule_fails {look} {r} {q} {s} {i} {k} {u} g o b h = fails_by look (rule r ∷ []) s i b (λ x e. stop_rule lam examples (limited lam) look g o x (said look (rule q ∷ []) u k b h x e))

-- The token begins no body of the rule: its last one stops there, and the rule could begin there.
pub rule_unwanted : (look : ℕ → Option Token) (r : Rule) (s i : ℕ) (c : Class) (rest : List Sym) (wanted : Wanted) → fills r ≡ true → is_barred wanted ≡ false → sample_of wanted ≡ examples.first r → ((before : Value) → production lam r before (look i) ≡ Some (mark c ∷ rest)) → fits_next lam c (look i) ≡ false → Fails look (rule r ∷ []) s i (Unexpected i wanted)
rule_unwanted look r s i c rest wanted f n e p h = (
  moved look (rule r ∷ []) s i (ap (λ b. unexpected b i) n) (λ before. inside (p before) tt (wrong h)),
  moved look (rule r ∷ []) s i (ap (λ w. could i w) e) (λ before. opens f),
)

-- ---- a rule q that is read in part inside r, past its first token

pub rule_fails_inside : {look : ℕ → Option Token} {r q p : Rule} {s i k u n t : ℕ} {rest more : List Sym} {prev prev' : Value → Value} {done done' : List Value → List Value} {ok ok' : Token → Type 0} → Part look r s i (rule q ∷ rest) prev done k u ok → k < n → Part look q u k (rule p ∷ more) prev' done' n t ok' → ok' (examples.first p) → (b : Break) → Fails look (rule p ∷ []) t n b → Fails look (rule r ∷ []) s i b
rule_fails_inside {look} {r} {q} {p} {s} {i} {k} {u} {n} {t} g lt y o b h = fails_by look (rule r ∷ []) s i b (λ x e. stop_rule_inside lam examples (limited lam) look g lt y o x (said look (rule p ∷ []) t n b h x e))

-- ---- which body is read, by the next token

-- the next token is of the class
pub record Present (tokens : List Token) (k : ℕ) (m : Mark) : Type 0 where
  pub yes : fits_at m (slice_get tokens k) ≡ true

pub present : {tokens : List Token} {s k : ℕ} {m : Mark} {w : Token} → Taken tokens s k m w → Present tokens k m
present {m = m} t = record { yes = ap (fits_next lam (class_of m)) t.is ∙ t.fit }

pub deep_present : {tokens : List Token} {s k : ℕ} {m : Mark} {b : Break} → IsDeep tokens s k m b → Present tokens k m
deep_present {m = m} d = record { yes = ap (fits_next lam (class_of m)) d.is ∙ d.fit }

abbrev pub IsPermitted : Rule → Type 0
IsPermitted q = (before : Value) → permits q before ≡ true

-- the first body
pub body_of : {tokens : List Token} {k : ℕ} {m : Mark} (q : Rule) {rest : List Sym} {more : List (List Sym)} → Present tokens k m → bodies q ≡ (mark (class_of m) ∷ rest) ∷ more → IsPermitted q → (before : Value) → production lam q before (slice_get tokens k) ≡ Some (mark (class_of m) ∷ rest)
body_of {tokens} {k} {m} q {rest} {more} t e p before =
    let o = slice_get tokens k in
    chosen lam q before o (p before) (ap (λ bs. pick lam bs o) e ∙ picks_mark lam (class_of m) rest more o t.yes)

-- the second body, where the first does not begin with the token
pub second_body_of : {tokens : List Token} {k : ℕ} {m m2 : Mark} (q : Rule) {rest rest2 : List Sym} {more : List (List Sym)} → Absent tokens k m → Present tokens k m2 → bodies q ≡ (mark (class_of m) ∷ rest) ∷ (mark (class_of m2) ∷ rest2) ∷ more → IsPermitted q → (before : Value) → production lam q before (slice_get tokens k) ≡ Some (mark (class_of m2) ∷ rest2)
second_body_of {tokens} {k} {m} {m2} q {rest} {rest2} {more} a t e p before =
    let o = slice_get tokens k in
    chosen lam q before o (p before) (ap (λ bs. pick lam bs o) e ∙ picks_past_mark lam (class_of m) rest (mark (class_of m2) ∷ rest2) more o a.no ∙ picks_mark lam (class_of m2) rest2 more o t.yes)

-- the empty body, after one that does not begin with the token
pub no_body_of : {tokens : List Token} {k : ℕ} {m : Mark} (q : Rule) {rest : List Sym} → Absent tokens k m → bodies q ≡ (mark (class_of m) ∷ rest) ∷ [] ∷ [] → IsPermitted q → (before : Value) → production lam q before (slice_get tokens k) ≡ Some []
no_body_of {tokens} {k} {m} q {rest} a e p before =
    let o = slice_get tokens k in
    chosen lam q before o (p before) (ap (λ bs. pick lam bs o) e ∙ picks_past_mark lam (class_of m) rest [] [] o a.no)

-- the empty body, after two of them
pub neither_body_of : {tokens : List Token} {k : ℕ} {m m2 : Mark} (q : Rule) {rest rest2 : List Sym} → Absent tokens k m → Absent tokens k m2 → bodies q ≡ (mark (class_of m) ∷ rest) ∷ (mark (class_of m2) ∷ rest2) ∷ [] ∷ [] → IsPermitted q → (before : Value) → production lam q before (slice_get tokens k) ≡ Some []
neither_body_of {tokens} {k} {m} {m2} q {rest} {rest2} a b e p before =
    let o = slice_get tokens k in
    chosen lam q before o (p before) (ap (λ bs. pick lam bs o) e ∙ picks_past_mark lam (class_of m) rest (mark (class_of m2) ∷ rest2) ([] ∷ []) o a.no ∙ picks_past_mark lam (class_of m2) rest2 [] [] o b.no)

-- the last of two bodies, and the last of three, where none before it begins with the token
pub last_of_two : {tokens : List Token} {k : ℕ} {m : Mark} (q : Rule) {rest body : List Sym} → Absent tokens k m → bodies q ≡ (mark (class_of m) ∷ rest) ∷ body ∷ [] → IsPermitted q → (before : Value) → production lam q before (slice_get tokens k) ≡ Some body
last_of_two {tokens} {k} {m} q {rest} {body} a e p before =
    let o = slice_get tokens k in
    chosen lam q before o (p before) (ap (λ bs. pick lam bs o) e ∙ picks_past_mark lam (class_of m) rest body [] o a.no)

pub last_of_three : {tokens : List Token} {k : ℕ} {m m2 : Mark} (q : Rule) {rest rest2 body : List Sym} → Absent tokens k m → Absent tokens k m2 → bodies q ≡ (mark (class_of m) ∷ rest) ∷ (mark (class_of m2) ∷ rest2) ∷ body ∷ [] → IsPermitted q → (before : Value) → production lam q before (slice_get tokens k) ≡ Some body
last_of_three {tokens} {k} {m} {m2} q {rest} {rest2} {body} a b e p before =
    let o = slice_get tokens k in
    chosen lam q before o (p before) (ap (λ bs. pick lam bs o) e ∙ picks_past_mark lam (class_of m) rest (mark (class_of m2) ∷ rest2) (body ∷ []) o a.no ∙ picks_past_mark lam (class_of m2) rest2 body [] o b.no)

-- a body that begins with a rule, and the empty one
pub rule_body_of : (tokens : List Token) (k : ℕ) (q r : Rule) {rest : List Sym} {more : List (List Sym)} → begins_next lam r (slice_get tokens k) ≡ true → bodies q ≡ (rule r ∷ rest) ∷ more → IsPermitted q → (before : Value) → production lam q before (slice_get tokens k) ≡ Some (rule r ∷ rest)
rule_body_of tokens k q r {rest} {more} h e p before =
    let o = slice_get tokens k in
    chosen lam q before o (p before) (ap (λ bs. pick lam bs o) e ∙ picks_rule lam r rest more o h)

pub no_rule_body_of : (tokens : List Token) (k : ℕ) (q r : Rule) {rest : List Sym} → begins_next lam r (slice_get tokens k) ≡ false → bodies q ≡ (rule r ∷ rest) ∷ [] ∷ [] → IsPermitted q → (before : Value) → production lam q before (slice_get tokens k) ≡ Some []
no_rule_body_of tokens k q r {rest} h e p before =
    let o = slice_get tokens k in
    chosen lam q before o (p before) (ap (λ bs. pick lam bs o) e ∙ picks_past_rule lam r rest [] [] o h)

-- the sum is past the limit at the next token
pub token_deep_fails : {tokens : List Token} {r : Rule} {s i k u : ℕ} {m : Mark} {rest : List Sym} {prev : Value → Value} {done : List Value → List Value} {ok : Token → Type 0} → Part (slice_get tokens) r s i (mark (class_of m) ∷ rest) prev done k u ok → (b : Break) → IsDeep tokens u k m b → Fails (slice_get tokens) (rule r ∷ []) s i b
token_deep_fails {tokens} {r} {s} {i} {k} g b d =
    subst (λ x. Fails (slice_get tokens) (rule r ∷ []) s i x) (sym d.says) (λ before. g.stops before (too_deep k) tt (deep d.is d.fit d.over))

-- ---- an optional part, whose first token tells whether it is there

entered : (q : Rule) (u : ℕ) → counts q ≡ false → enters lam q u ≡ u
entered q u c = ap (λ (b : Bool). cond b (u + 1) u) c

-- it is begun, and its first token, which adds nothing to the sum, is taken
pub opened : {tokens : List Token} {u k : ℕ} {m : Mark} {w : Token} (q : Rule) {rest : List Sym} → Taken tokens u k m w → (class_of m).adds ≡ 0 → counts q ≡ false → ((before : Value) → production lam q before (slice_get tokens k) ≡ Some (mark (class_of m) ∷ rest)) → Part (slice_get tokens) q u k rest (λ before. word w) (λ vs. word w ∷ vs) (k + 1) u (λ v. Unit {0})
opened {tokens} {u} {k} {m} {w} q {rest} t z c p =
    let g = subst (λ n. Part (slice_get tokens) q u k (mark (class_of m) ∷ rest) (λ before. before) (λ vs. vs) k n (λ v. ⊥)) (entered q u c) (part_begun (slice_get tokens) q u k p) in
    mark_taken t z g

-- the same with a token that counts
pub counted_opened : {tokens : List Token} {u k : ℕ} {m : Mark} {w : Token} (q : Rule) {rest : List Sym} → Taken tokens u k m w → (class_of m).adds ≡ 1 → counts q ≡ false → ((before : Value) → production lam q before (slice_get tokens k) ≡ Some (mark (class_of m) ∷ rest)) → Part (slice_get tokens) q u k rest (λ before. word w) (λ vs. word w ∷ vs) (k + 1) (u + 1) (λ v. Unit {0})
counted_opened {tokens} {u} {k} {m} {w} q {rest} t z c p =
    let g = subst (λ n. Part (slice_get tokens) q u k (mark (class_of m) ∷ rest) (λ before. before) (λ vs. vs) k n (λ v. ⊥)) (entered q u c) (part_begun (slice_get tokens) q u k p) in
    counted_taken t z g

-- it is empty
pub left_out : (look : ℕ → Option Token) (q : Rule) (u k : ℕ) → counts q ≡ false → ((before : Value) → production lam q before (look k) ≡ Some []) → Gives look q u k (act q []) k u
left_out look q u k c p before = empty_read lam q c before (p before)

-- the sum is past the limit at its first token
pub deep_fails : {tokens : List Token} {r q : Rule} {s i k u : ℕ} {m : Mark} {rest more : List Sym} {prev : Value → Value} {done : List Value → List Value} {ok : Token → Type 0} → Part (slice_get tokens) r s i (rule q ∷ rest) prev done k u ok → counts q ≡ false → ((before : Value) → production lam q before (slice_get tokens k) ≡ Some (mark (class_of m) ∷ more)) → (b : Break) → IsDeep tokens u k m b → Fails (slice_get tokens) (rule r ∷ []) s i b
deep_fails {tokens} {r} {q} {s} {i} {k} {u} g c p b d =
    let e = entered q u c in
    subst (λ x. Fails (slice_get tokens) (rule r ∷ []) s i x) (sym d.says) (stop_deep lam examples (limited lam) (slice_get tokens) g p d.is d.fit (omega (arith, d.over, e)))

-- ---- a rule that ends with a part of itself, as a loop reads it

-- What was read of the rule r from i on leaves the rule q at k, whose value, in V, is still open.
abbrev pub Loop : (V : Type 0) (wrap : V → Value) (look : ℕ → Option Token) (r q : Rule) (s i : ℕ) (value : V → Value) (k u : ℕ) (ok : Token → Type 0) → Type 0
Loop V wrap look r q s i value k u ok = Goes V lam wrap examples (limited lam) look r q s i value k u ok

-- before the first turn, where r ends with q
pub loop_begins : {V : Type 0} {wrap : V → Value} {look : ℕ → Option Token} {r q : Rule} {s i k u : ℕ} {prev : Value → Value} {done : List Value → List Value} {ok : Token → Type 0} {value : V → Value} → Part look r s i (rule q ∷ []) prev done k u ok → ((os : V) → act r (done (wrap os ∷ [])) ≡ value os) → Loop V wrap look r q s i value k u ok
loop_begins {look = look} g e = stage.goes_on lam examples (limited lam) look g e

-- before the first turn, where r is q
pub loop_begins_self : {V : Type 0} (wrap : V → Value) (look : ℕ → Option Token) (q : Rule) (u k : ℕ) → counts q ≡ false → Loop V wrap look q q u k wrap k u (λ w. Unit {0})
loop_begins_self wrap look q u k c = stage.goes_first lam examples (limited lam) look wrap q u k c

-- after a turn
pub loop_goes_on : {V : Type 0} {wrap : V → Value} {look : ℕ → Option Token} {r q : Rule} {s i k u n t : ℕ} {prev : Value → Value} {done : List Value → List Value} {ok ok' : Token → Type 0} {value : V → Value} {push : V → V} → counts q ≡ false → Loop V wrap look r q s i value k u ok → k < n → Part look q u k (rule q ∷ []) prev done n t ok' → ((os : V) → act q (done (wrap os ∷ [])) ≡ wrap (push os)) → Loop V wrap look r q s i (λ os. value (push os)) n t ok'
loop_goes_on {look = look} c g lt y e = stage.goes_more lam examples (limited lam) look c g lt y e

-- after the last turn
pub loop_ends : {V : Type 0} {wrap : V → Value} {look : ℕ → Option Token} {r q : Rule} {s i k u : ℕ} {ok : Token → Type 0} {value : V → Value} (none : V) → counts q ≡ false → Loop V wrap look r q s i value k u ok → act q [] ≡ wrap none → ((before : Value) → production lam q before (look k) ≡ Some []) → Gives look r s i (value none) k (leaves lam r s u)
loop_ends {look = look} none c g e p = stage.goes_end lam examples (limited lam) look none c g e p

pub loop_deep_fails : {V : Type 0} {wrap : V → Value} {tokens : List Token} {r q : Rule} {s i k u : ℕ} {m : Mark} {more : List Sym} {ok : Token → Type 0} {value : V → Value} → Loop V wrap (slice_get tokens) r q s i value k u ok → counts q ≡ false → ((before : Value) → production lam q before (slice_get tokens k) ≡ Some (mark (class_of m) ∷ more)) → (b : Break) → IsDeep tokens u k m b → Fails (slice_get tokens) (rule r ∷ []) s i b
loop_deep_fails {tokens = tokens} {r = r} {q = q} {s = s} {i = i} {k = k} {u = u} g c p b d =
    let e = entered q u c in
    subst (λ x. Fails (slice_get tokens) (rule r ∷ []) s i x) (sym d.says) (goes_stop_deep lam examples (limited lam) (slice_get tokens) g p d.is d.fit (omega (arith, d.over, e)))

pub loop_mark_fails : {V : Type 0} {wrap : V → Value} {look : ℕ → Option Token} {r q : Rule} {s i k u n t : ℕ} {c : Class} {more : List Sym} {prev : Value → Value} {done : List Value → List Value} {ok ok' : Token → Type 0} {value : V → Value} → Loop V wrap look r q s i value k u ok → k < n → Part look q u k (mark c ∷ more) prev done n t ok' → ok' (examples.sample c) → (b : Break) → ((others : List Sym) → Fails look (mark c ∷ others) t n b) → Fails look (rule r ∷ []) s i b
loop_mark_fails {look = look} {r = r} {s = s} {i = i} {n = n} {t = t} {c = c} {more = more} g lt y o b h = fails_by look (rule r ∷ []) s i b (λ x e. goes_stop_mark lam examples (limited lam) look g lt y o x (said look (mark c ∷ more) t n b (h more) x e))

pub loop_rule_fails : {V : Type 0} {wrap : V → Value} {look : ℕ → Option Token} {r q p : Rule} {s i k u n t : ℕ} {more : List Sym} {prev : Value → Value} {done : List Value → List Value} {ok ok' : Token → Type 0} {value : V → Value} → Loop V wrap look r q s i value k u ok → k < n → Part look q u k (rule p ∷ more) prev done n t ok' → ok' (examples.first p) → (b : Break) → Fails look (rule p ∷ []) t n b → Fails look (rule r ∷ []) s i b
loop_rule_fails {look = look} {r = r} {p = p} {s = s} {i = i} {n = n} {t = t} g lt y o b h = fails_by look (rule r ∷ []) s i b (λ x e. goes_stop_rule lam examples (limited lam) look g lt y o x (said look (rule p ∷ []) t n b h x e))

pub loop_strict : {V : Type 0} {wrap : V → Value} {look : ℕ → Option Token} {r q : Rule} {s i k u : ℕ} {ok : Token → Type 0} {value : V → Value} (ok' : Token → Type 0) → ((w : Token) → ok' w → ok w) → Loop V wrap look r q s i value k u ok → Loop V wrap look r q s i value k u ok'
loop_strict {k = k} {ok = ok} ok' f g = record { reads = g.reads; stops = λ before x a h. g.stops before x (at_map k ok' ok x f a) h }

-- ---- what is no place before `=`

bars : (before : Value) (o : Option Token) → is_place_value before ≡ false → fits_at mark_of.Assign o ≡ true → production lam assign_part before o ≡ None
bars before o p h =
    let all = pick lam (bodies assign_part) o in
    let e : all ≡ equals ∷ rule expr ∷ [] = picks_mark lam (class_of mark_of.Assign) (rule expr ∷ []) ([] ∷ []) o h in
    ap (λ (b : Bool). cond b (Some all) (cond (is_empty all) (Some []) None)) p ∙ ap (λ (q : List Sym). cond (is_empty q) (Some []) None) e
