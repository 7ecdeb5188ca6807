-- The canonical text of a program is read as the program, or is too deep.
use Rattle.std.proofs.Common.{◌≡◌, ℕ, ◌+◌, ◌⊎◌, inl, inr, Option, None, List, [], ◌∷◌, slice_get, refl, sym, ◌∙◌, arith}
use Rattle.std.proofs.Math.Decide.{dec_le}
use Rattle.std.proofs.Math.Logic.{dite}
use Rattle.lam_grammar_laws.specs.Grammar.{Symbol, Grammar, Reads, enters, leaves}
use Rattle.lam_grammar_laws.specs.Grammar as read
use Rattle.lam_grammar_laws.specs.Texts.{limited, IsTooDeep}
use Rattle.lam_grammar_laws.specs.Examples.{Examples}
use Rattle.lam_grammar_laws.specs.Stopping.{too_deep, Stops, deep, later, inside, after}
use Rattle.lam_grammar_laws.proofs.Theorem.{is_too_deep}
use Rattle.lam_syntax.specs.Tree.{ProgramTree}
use Rattle.lam_lexer.specs.declared.token.Token.{Token}
use Rattle.lam_grammar.specs.Meaning.{nothing, word, items_value}
use Rattle.lam_grammar.specs.Program.{lam, program, SpellsProgram}
use Rattle.lam_grammar.specs.Examples.{examples}
use Rattle.lam_grammar.proofs.Passes.{sound}
use Rattle.lam_print.specs.Canon.{pieces, canon}
use Rattle.lam_print.proofs.PiecesFit.{pieces_fit}
use Rattle.lam_print_laws.proofs.Whole.{words_fit, read_again}
use Rattle.lam_print_laws.proofs.Spans.{Spans}
use Rattle.lam_print_laws.proofs.Spans as spans
use Rattle.lam_print_laws.proofs.Marks.{ended, ended_is, all_here}
use Rattle.lam_print_laws.proofs.Items.{Whole, a_program}
use Rattle.lam_print_laws.proofs.Ready.{spelt_ready}
use Rattle.lam_print_laws.proofs.Steady.{steady}
use Rattle.lam_front.specs.Programs.{IsLexed}
use Rattle.lam_front_laws.specs.Law.{SpeltAgain}
use Rattle.lam_front_laws.specs.Law as law
use Rattle.lam_front_laws.proofs.Written.{written_utf8}

-- What is read whatever the sum is read within the limit, or stops at a token that is too deep.
abbrev Within : (G : Grammar) → Examples G → (ℕ → Option G.Token) → List (Symbol G.Class G.Rule) → G.Value → ℕ → ℕ → List G.Value → ℕ → Type 0
Within G E look p before s i vs j = ((t : ℕ) × Reads G (limited G) look p before s i vs j t) ⊎ ((m : ℕ) × Stops G E (limited G) look p before s i (too_deep m))

within : {G : Grammar} (E : Examples G) {look : ℕ → Option G.Token} {p : List (Symbol G.Class G.Rule)} {before : G.Value} {i j : ℕ} {vs : List G.Value} → Spans G look p before i vs j → (s : ℕ) → Within G E look p before s i vs j
within E spans.nothing s = inl (s, read.nothing)
within {G} E (spans.token {c = c} {i = i} l f h) s = dite (dec_le s G.limit)
    (λ d. elim (within E h (s + G.weight c)) [ inl x ↦ inl (x.0, read.token l f d x.1) | inr y ↦ inr (y.0, later l f d y.1) ])
    (λ d. inr (i, deep l f (omega (arith, d))))
within {G} E (spans.part {r = r} p h g) s = elim (within E h (enters G r s)) [
  | inl x ↦ elim (within E g (leaves G r s x.0)) [ inl y ↦ inl (y.0, read.part p x.1 y.1) | inr y ↦ inr (y.0, after p x.1 tt y.1) ]
  | inr y ↦ inr (y.0, inside p tt y.1)
]

-- tokens that are read as a program, whatever the sum
spelt_or_deep : (tokens : List Token) (p : ProgramTree) (w : Token) (end : ℕ) → Spans lam (slice_get tokens) program nothing 0 (items_value p ∷ word w ∷ []) end → slice_get tokens end ≡ None → SpellsProgram tokens p ⊎ ((n : ℕ) × IsTooDeep lam program nothing tokens n)
spelt_or_deep tokens p w end h e = elim (within examples h 0) [
  | inl x ↦ inl (w, record { end = end; sum = x.0; reads = x.1; whole = e })
  | inr y ↦ inr (y.0, is_too_deep lam examples sound program nothing tokens y.0 refl y.1)
]

pub spelt_again : SpeltAgain
spelt_again bytes p s =
    let again = read_again bytes s.tokens p s.is in
    let tokens : List Token = again.0 in
    let lexed : IsLexed (canon p) tokens = record { utf8 = written_utf8 (pieces p) (pieces_fit p (words_fit bytes s.tokens p s.is)); lexed = again.1 } in
    let r : Whole (slice_get tokens) p = a_program (slice_get tokens) p (spelt_ready s.tokens p s.is.spelt) (all_here tokens (ended (pieces p)) (again.2 ∙ sym (ended_is (pieces p)))) in
    elim (spelt_or_deep tokens r.tree r.w r.end r.spans r.last) [
      | inl x ↦ law.same r.tree (record { tokens = tokens; is = record { utf8 = lexed.utf8; lexed = lexed.lexed; spelt = x } }) r.same (steady p r.tree r.same)
      | inr y ↦ law.too_deep tokens y.0 lexed y.1
    ]
