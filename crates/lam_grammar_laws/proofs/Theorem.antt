-- From where reading stops to what a parser's answer says.
use Rattle.std.proofs.Common.{◌≡◌, ℕ, ◌+◌, ◌≤◌, inl, Bool, true, false, cond, nat_lt, Option, Some, None, List, ◌∷◌, slice_get, refl, ap, ◌∙◌, arith}
use Rattle.std.proofs.lemmas.Option.{slice_get_past}
use Rattle.std.proofs.lemmas.Bool.{cond_below}
use Rattle.lam_grammar_laws.specs.Grammar.{Symbol, mark, Grammar, pick, production, free}
use Rattle.lam_grammar_laws.specs.Texts.{limited, capped, Spells, Continues, CouldStand, IsUnexpected, IsTooDeep, IsBarred}
use Rattle.lam_grammar_laws.specs.Examples.{Examples, followed}
use Rattle.lam_grammar_laws.specs.Stopping.{Stop, unexpected, too_deep, could, reached, stop_place, Stops, there, later, inside, after, barred}
use Rattle.lam_grammar_laws.proofs.Laws.{once, never, freed, free_pick, free_reads, never_free}
use Rattle.lam_grammar_laws.proofs.Sound.{Sound}
use Rattle.lam_grammar_laws.proofs.Spelling.{moves}
use Rattle.lam_grammar_laws.proofs.Completion.{kept, Definite, completes}

either_way : (b : Bool) (limit : ℕ) → limit ≤ cond b limit limit
either_way true limit = omega arith
either_way false limit = omega arith

-- A text means one list of values.
pub value_once : (G : Grammar) (top : List (Symbol G.Class G.Rule)) (none : G.Value) (ts : List G.Token) (vs vs' : List G.Value) → Spells G (limited G) top none ts vs → Spells G (limited G) top none ts vs' → vs ≡ vs'
value_once G top none ts vs vs' a b = ap (λ (x : List G.Value × ℕ × ℕ). x.0) (once a.reads (λ j h. refl) b.reads)

module _ (G : Grammar) (E : Examples G) (S : Sound G E) (top : List (Symbol G.Class G.Rule)) (none : G.Value) (ts : List G.Token) where
  pub continues : (x : Stop G.Token) → Definite x → followed G E top ≡ true → Stops G E (limited G) (slice_get ts) top none 0 0 x → Continues G top none ts (kept x) (stop_place x)
  continues x d f h =
      let c = completes G E S ts d (omega arith) f h in
      record { others = c.others; same = c.same; bound = c.bound; vs = c.vs; spells = record { end = c.end; sum = c.sum; reads = c.reads; whole = slice_get_past c.others c.end (omega (arith, c.whole)) } }

  pub could_stand : (m : ℕ) (w : G.Token) → followed G E top ≡ true → Stops G E (limited G) (slice_get ts) top none 0 0 (could m w) → CouldStand G top none ts m w
  could_stand m w f h =
      let c = completes G E S ts tt (omega arith) f h in
      record { others = c.others; same = c.same; next = c.next; bound = c.bound; vs = c.vs; spells = record { end = c.end; sum = c.sum; reads = c.reads; whole = slice_get_past c.others c.end (omega (arith, c.whole)) } }

  pub is_unexpected : (b : Bool) (m : ℕ) (w : G.Token) → followed G E top ≡ true → Stops G E (limited G) (slice_get ts) top none 0 0 (unexpected b m) → Stops G E (limited G) (slice_get ts) top none 0 0 (could m w) → IsUnexpected G top none ts m
  is_unexpected b m w f h k = (continues (could m w) tt f k, λ c. never h c.same tt c.spells.reads)

  pub is_too_deep : (m : ℕ) → followed G E top ≡ true → Stops G E (limited G) (slice_get ts) top none 0 0 (too_deep m) → IsTooDeep G top none ts m
  is_too_deep m f h = (
    continues (too_deep m) tt f h,
    λ c.
        let e : G.limit ≡ capped G (m + 1) c.bound m = cond_below m (m + 1) G.limit c.bound (omega arith) in
        never h c.same (omega (arith, e)) c.spells.reads,
  )

  pub is_not_barred : (m : ℕ) → Stops G E (limited G) (slice_get ts) top none 0 0 (unexpected false m) → IsBarred G top none ts m → ⊥
  is_not_barred m h c = never_free h c.same c.spells.reads

  -- a text that is spelt goes on from each of its fronts
  pub goes_on : (vs : List G.Value) → Spells G (limited G) top none ts vs → (n d : ℕ) → Continues G top none ts n d
  goes_on vs s n d = record {
    others = ts;
    same = λ j h. refl;
    bound = G.limit;
    vs = vs;
    spells = record { end = s.end; sum = s.sum; reads = moves G E S s.reads (λ j h. refl) (inl refl) (λ m h. either_way (nat_lt m d) G.limit); whole = s.whole };
  }

  -- a text with a fault means nothing
  pub unexpected_means_nothing : (m : ℕ) (vs : List G.Value) → IsUnexpected G top none ts m → Spells G (limited G) top none ts vs → ⊥
  unexpected_means_nothing m vs h s = h.1 (goes_on vs s (m + 1) 0)

  pub too_deep_means_nothing : (m : ℕ) (vs : List G.Value) → IsTooDeep G top none ts m → Spells G (limited G) top none ts vs → ⊥
  too_deep_means_nothing m vs h s = h.1 (goes_on vs s (m + 1) (m + 1))

-- ---- where each rule may stand after each value

abbrev pub free_examples : {G : Grammar} → Examples G → Examples (free G)
free_examples E = record {
  sample = E.sample;
  null = E.null;
  word = E.word;
  short = E.short;
  rank = E.rank;
  top = E.top;
  closes = E.closes;
  fills = E.fills;
  full = E.full;
  first = E.first;
}

-- What a rule that is barred reads in other places begins with a token.
pub record Bars (G : Grammar) (r : G.Rule) (o : Option G.Token) : Type 0 where
  pub w : G.Token
  pub c : G.Class
  pub more : List (Symbol G.Class G.Rule)
  pub next : o ≡ Some w
  pub body : pick G (G.bodies r) o ≡ mark c ∷ more
  pub fit : G.fits c w ≡ true

abbrev pub HasBars : Grammar → Type 0
HasBars G = (r : G.Rule) (before : G.Value) (o : Option G.Token) → production G r before o ≡ None → Bars G r o

module _ (G : Grammar) (E : Examples G) (bars : HasBars G) where
  pub free_stops : {cap : ℕ → ℕ} {look : ℕ → Option G.Token} {p : List (Symbol G.Class G.Rule)} {before : G.Value} {s i m : ℕ} → Stops G E cap look p before s i (unexpected true m) → Stops (free G) (free_examples E) cap look p before s i (reached m)
  free_stops (later l f d h) = later l f d (free_stops h)
  free_stops (inside {r = r} {body = body} {before = before} p a h) = inside (freed G r before _ body p) tt (free_stops h)
  free_stops (after {r = r} {body = body} {before = before} p g a h) = after (freed G r before _ body p) (free_reads g) tt (free_stops h)
  free_stops (barred {r = r} {before = before} p) =
      let b = bars r before _ p in
      inside (ap Some (free_pick G (G.bodies r) _ ∙ b.body)) tt (there b.next b.fit)

  -- Where a rule is barred, its token continues a text in which it is not.
  pub is_barred : (S : Sound (free G) (free_examples E)) (top : List (Symbol G.Class G.Rule)) (none : G.Value) (ts : List G.Token) (m : ℕ) → followed (free G) (free_examples E) top ≡ true → Stops G E (limited G) (slice_get ts) top none 0 0 (unexpected true m) → IsBarred G top none ts m
  is_barred S top none ts m f h = continues (free G) (free_examples E) S top none ts (reached m) tt f (free_stops h)
