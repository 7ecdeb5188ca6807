-- What stands behind an expression in a statement: `=` and a value, after a place, or nothing.
use Rattle.std.proofs.Common.{◌≡◌, ℕ, ◌+◌, ◌<◌, Bool, true, false, cond, Option, Some, None, List, [], ◌∷◌, slice_get, refl, sym, ap, ◌∙◌, subst, arith, add-zero}
use Rattle.lam_grammar_laws.specs.Grammar.{rule, pick, is_empty, production, Reads, token, part}
use Rattle.lam_grammar_laws.specs.Texts.{limited}
use Rattle.lam_grammar_laws.specs.Stopping.{Stop, unexpected, too_deep, could, reached, stop_place, fits_next, AtFirst, AfterLast, Stops, sample, skips, later, inside, after, barred}
use Rattle.lam_grammar_laws.proofs.Laws.{stands}
use Rattle.lam_grammar_laws.proofs.Stages.{At, at_past}
use Rattle.lam_lexer.specs.declared.token.Token.{Token}
use Rattle.lam_grammar.specs.Table.{Rule, Sym, bodies, stmt, assign_part, expr, equals, semicolon}
use Rattle.lam_grammar.specs.Meaning.{Value, word, permits}
use Rattle.lam_grammar.specs.Program.{lam}
use Rattle.lam_grammar.specs.Examples.{examples}
use Rattle.lam_parser_tokens.specs.declared.marks.Mark.TheVariants as m
use Rattle.lam_parser_tokens.specs.declared.breaks.Break.{Break}
use Rattle.lam_parser_tokens.specs.declared.breaks.Break.TheVariants.{Unexpected, TooDeep, NoMemory}
use Rattle.lam_parser_tokens.specs.declared.breaks.Wanted.TheVariants.{Place}
use Rattle.lam_parser_tokens.specs.Classes.{class_of, fits_at, sample_of}
use Rattle.lam_parser_tokens.specs.Reading.{Gives, Fails, Taken}
use Rattle.lam_parser_tokens.proofs.Rules.{Part}

-- the body before a token `=`, and before each other one
assign_pick : (o : Option Token) → fits_at m.Assign o ≡ true → pick lam (bodies assign_part) o ≡ equals ∷ rule expr ∷ []
assign_pick None f = cc
assign_pick (Some w) f = ap (λ (b : Bool). cond b (equals ∷ rule expr ∷ []) []) f

no_assign_pick : (o : Option Token) → fits_at m.Assign o ≡ false → pick lam (bodies assign_part) o ≡ []
no_assign_pick None f = refl
no_assign_pick (Some w) f = ap (λ (b : Bool). cond b (equals ∷ rule expr ∷ []) []) f

-- the body by its guard
abbrev body_by : Bool → List Sym → Option (List Sym)
body_by b p = cond b (Some p) (cond (is_empty p) (Some []) None)

empty_by : (b : Bool) → body_by b [] ≡ Some []
empty_by true = refl
empty_by false = refl

pub absent : (look : ℕ → Option Token) (k : ℕ) → fits_at m.Assign (look k) ≡ false → (before : Value) → production lam assign_part before (look k) ≡ Some []
absent look k f before = ap (body_by (permits assign_part before)) (no_assign_pick (look k) f) ∙ empty_by (permits assign_part before)

present : (look : ℕ → Option Token) (k : ℕ) (v : Value) → permits assign_part v ≡ true → fits_at m.Assign (look k) ≡ true → production lam assign_part v (look k) ≡ Some (equals ∷ rule expr ∷ [])
present look k v y f = ap (λ (b : Bool). body_by b (pick lam (bodies assign_part) (look k))) y ∙ ap Some (assign_pick (look k) f)

shut : (look : ℕ → Option Token) (k : ℕ) (v : Value) → permits assign_part v ≡ false → fits_at m.Assign (look k) ≡ true → production lam assign_part v (look k) ≡ None
shut look k v n f = ap (λ (b : Bool). body_by b (pick lam (bodies assign_part) (look k))) n ∙ ap (body_by false) (assign_pick (look k) f)

first_past : (r : Rule) (k : ℕ) (x : Stop Token) → k < stop_place x → AtFirst lam examples r k x
first_past r k (unexpected b m) lt = tt
first_past r k (too_deep m) lt = tt
first_past r k (could m w) lt = λ e. absurd (omega arith)
first_past r k (reached m) lt = tt

after_of : (r : Rule) (k : ℕ) (x : Stop Token) → At k (λ w. examples.closes r w ≡ true) x → AfterLast lam examples r k x
after_of r k (unexpected b m) a = tt
after_of r k (too_deep m) a = tt
after_of r k (could m w) a = a
after_of r k (reached m) a = tt

-- an expression was read, which means v
module _ (tokens : List Token) (s i k u : ℕ) (v : Value) (done : List Value → List Value) (g : Part (slice_get tokens) stmt s i (rule assign_part ∷ semicolon ∷ []) (λ before. v) done k u (λ w. examples.closes expr w ≡ true)) (w : Token) (t : Taken tokens u k m.Assign w) where
  fits : fits_at m.Assign (slice_get tokens k) ≡ true
  fits = ap (fits_next lam (class_of m.Assign)) t.is ∙ t.fit

  -- a `=` stands behind what is no place
  pub no_place : permits assign_part v ≡ false → Fails (slice_get tokens) (rule stmt ∷ []) s i (Unexpected k Place)
  no_place n = (
    λ before. g.stops before (unexpected true k) tt (barred (shut (slice_get tokens) k v n fits)),
    λ before. g.stops before (could k (sample_of Place)) (λ e. refl) (skips refl refl sample),
  )

  module _ (y : permits assign_part v ≡ true) where
    -- what the value comes to the statement comes to
    stops_past : (x : Stop Token) → Stops lam examples (limited lam) (slice_get tokens) (rule expr ∷ []) (word w) u (k + 1) x → (before : Value) → Stops lam examples (limited lam) (slice_get tokens) (rule stmt ∷ []) before s i x
    stops_past x h before =
        let lt : k < stop_place x = omega (arith, stands h) in
        let e = sym (add-zero u) in
        g.stops before x (at_past k (λ z. examples.closes expr z ≡ true) x lt) (inside (present (slice_get tokens) k v y fits) (first_past assign_part k x lt) (later t.is t.fit t.within (subst (λ n. Stops lam examples (limited lam) (slice_get tokens) (rule expr ∷ []) (word w) n (k + 1) x) e h)))

    pub value_fails : (b : Break) → Fails (slice_get tokens) (rule expr ∷ []) u (k + 1) b → Fails (slice_get tokens) (rule stmt ∷ []) s i b
    value_fails (Unexpected at wanted) h = (stops_past _ (h.0 (word w)), stops_past _ (h.1 (word w)))
    value_fails (TooDeep at) h = stops_past _ (h (word w))
    value_fails NoMemory h = tt

    module _ (x : Value) (n : ℕ) (h : Gives (slice_get tokens) expr u (k + 1) x n u) where
      body_reads : Reads lam (limited lam) (slice_get tokens) (equals ∷ rule expr ∷ []) v u k (word w ∷ x ∷ []) n u
      body_reads = token t.is t.fit t.within (subst (λ z. Reads lam (limited lam) (slice_get tokens) (rule expr ∷ []) (word w) z (k + 1) (x ∷ []) n u) (sym (add-zero u)) (h (word w)))

      -- the value was read
      pub assigned : k + 1 < n → Part (slice_get tokens) stmt s i (semicolon ∷ []) (λ before. x) (λ vs. done (x ∷ vs)) n u (λ z. examples.closes assign_part z ≡ true)
      assigned lt = record {
        reads = λ before vs j z r. g.reads before (x ∷ vs) j z (part (present (slice_get tokens) k v y fits) body_reads r);
        stops = λ before z a r. g.stops before z (at_past k (λ q. examples.closes expr q ≡ true) z (omega (arith, lt, stands r))) (after (present (slice_get tokens) k v y fits) body_reads (after_of assign_part n z a) r);
      }
