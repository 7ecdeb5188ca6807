-- A program that tokens spell has their words.
use Rattle.std.proofs.Common.{◌≡◌, ℕ, zero, suc, Bool, true, false, cond, List, [], ◌∷◌, ◌++◌, Option, Some, None, map, slice_get, sym, ap, ◌∙◌, subst}
use Rattle.lam_grammar_laws.specs.Grammar.{Reads, nothing, token, part, pick, starts, is_empty, production}
use Rattle.lam_syntax.specs.Tree.{ProgramTree}
use Rattle.lam_lexer.specs.declared.token.Token.{Token}
use Rattle.lam_lexer.specs.declared.token.TokenKind.{TokenKind}
use Rattle.lam_lexer.specs.declared.token.TokenKind.TheVariants as Kind
use Rattle.lam_grammar.specs.Table.{Rule, Sym, bodies}
use Rattle.lam_grammar.specs.Meaning.{Value, permits, items_value, word}
use Rattle.lam_grammar.specs.Program.{lam, program}
use Rattle.lam_print.specs.Law.{Fits, AllFit, kind_of}
use Rattle.lam_print.specs.Fitting.{FitsTree}
use Rattle.lam_print.proofs.TokensFit.{tokens_fit}
use Rattle.lam_print.proofs.PiecesFit.{pieces_fit}
use Rattle.lam_print.proofs.Parting.{text_law}
use Rattle.lam_print_laws.specs.Words.{WordsFit, ReadAgain}
use Rattle.lam_print_laws.proofs.Good.{WordFits, some_items, Holds, none, of_token, of_rule}
use Rattle.lam_print_laws.proofs.Bodies.{Gives, Each, each_gives}

-- ---- the body that was read

-- the body is the one that is picked
picked : (permitted : Bool) (body picks : List Sym) → cond permitted (Some picks) (cond (is_empty picks) (Some []) None) ≡ Some body → picks ≡ body
picked true body picks e = cc
picked false body [] e = cc
picked false body (s ∷ picks) e = cc

one_of : (r : Rule) (b : Bool) (x y : List Sym) → Gives r x → Gives r y → Gives r (cond b x y)
one_of r true x y h g = h
one_of r false x y h g = g

pick_gives : (r : Rule) (o : Option Token) (bs : List (List Sym)) → Each r bs → Gives r (pick lam bs o)
pick_gives r o [] h = absurd h
pick_gives r o (body ∷ []) h = h
pick_gives r o (body ∷ other ∷ more) h = one_of r (starts lam body o) body (pick lam (other ∷ more) o) h.0 (pick_gives r o (other ∷ more) h.1)

production_gives : (r : Rule) (before : Value) (o : Option Token) (body : List Sym) → production lam r before o ≡ Some body → Gives r body
production_gives r before o body e = subst (Gives r) (picked (permits r before) body (pick lam (bodies r) o) e) (pick_gives r o (bodies r) (each_gives r))

-- ---- the derivation

reads_hold : {cap : ℕ → ℕ} {look : ℕ → Option Token} {p : List Sym} {before : Value} {s i : ℕ} {vs : List Value} {j t : ℕ} → ((n : ℕ) (w : Token) → look n ≡ Some w → WordFits w.kind) → Reads lam cap look p before s i vs j t → Holds p vs
reads_hold f nothing = none
reads_hold f (token {i = i} {w = w} l q c h) = of_token q (f i w l) (reads_hold f h)
reads_hold {look = look} f (part {r = r} {body = body} {before = before} {i = i} {us = us} e h g) = of_rule (production_gives r before (look i) body e us (reads_hold f h)) (reads_hold f g)

-- ---- the tokens

fit_word : (k : TokenKind) → Fits k → WordFits k
fit_word (Kind.Id x) f = f
fit_word (Kind.Number n) f = f
fit_word (Kind.Text bytes) f = f
fit_word _ f = tt

no_token : (ts : List Token) (n : ℕ) (w : Token) → map kind_of ts ≡ [] → slice_get ts n ≡ Some w → ⊥
no_token [] n w e l = cc
no_token (t ∷ ts) n w e l = cc

same_kind : (k : TokenKind) (t w : Token) → t.kind ≡ k → WordFits k → Some t ≡ Some w → WordFits w.kind
same_kind k t w e f l =
    let q : t ≡ w = cc in
    subst WordFits (sym e ∙ ap kind_of q) f

words_at : (ts : List Token) (before : List TokenKind) → map kind_of ts ≡ before ++ Kind.End ∷ [] → AllFit before → (n : ℕ) (w : Token) → slice_get ts n ≡ Some w → WordFits w.kind
words_at [] before e f n w l = cc
words_at (t ∷ ts) [] e f zero w l = let q : t.kind ≡ Kind.End = cc in same_kind Kind.End t w q tt l
words_at (t ∷ ts) [] e f (suc n) w l = let q : map kind_of ts ≡ [] = cc in absurd (no_token ts n w q l)
words_at (t ∷ ts) (k ∷ ks) e f zero w l = let q : t.kind ≡ k = cc in same_kind k t w q (fit_word k f.0) l
words_at (t ∷ ts) (k ∷ ks) e f (suc n) w l = let q : map kind_of ts ≡ ks ++ Kind.End ∷ [] = cc in words_at ts ks q f.1 n w l

program_fits : {p : ProgramTree} {w : Token} → Holds program (items_value p ∷ word w ∷ []) → FitsTree p
program_fits (of_rule (some_items f) _) = f

pub words_fit : WordsFit
words_fit text tokens p h =
    let t = tokens_fit text h.utf8 tokens h.lexed in
    program_fits (reads_hold (words_at tokens t.0 t.1 t.2) h.spelt.1.reads)

pub read_again : ReadAgain
read_again text tokens p h = text_law p (pieces_fit p (words_fit text tokens p h))
