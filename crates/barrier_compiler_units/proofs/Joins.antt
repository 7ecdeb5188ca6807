-- Units behind units.
use Rattle.std.proofs.Common.{◌≡◌, ℕ, ◌+◌, Bool, true, false, ◌&&◌, List, [], ◌∷◌, ◌++◌, length, map, if◌then◌else◌, Some, None, Ok, Err, inl, inr, refl, sym, ap, ◌∙◌, subst, append_assoc, append-nil, arith, length-append}
use Rattle.std.proofs.Math.Bool.{and-false, and_assoc}
use Rattle.std.proofs.lemmas.List.{map-append, length-map}
use Rattle.lam_value.specs.declared.values.Value.{Value}
use Rattle.lam_meaning.specs.Pieces.{constants_in}
use Rattle.lam_meaning.specs.Scheme.{Draft, all_constants, unit_of}
use Rattle.lam_meaning.specs.Long.{is_long, long_from}
use Rattle.barrier_compiler_units.specs.declared.units.Halt.{Halt}
use Rattle.barrier_compiler_units.specs.declared.units.Halt.TheVariants.{TooLong, Wide, NoMemory}
use Rattle.barrier_compiler_units.specs.Adds.{Made, Stage, draft_narrow, drafts_narrow, AllIn, Adds_units, AddsBy, Adds, Goes}
use Rattle.barrier_compiler_units.proofs.Numbers.{Grows, stays, further, grows_in, still_in, numbered_alike}

-- ---- the first that is too long

long_of : (n : ℕ) (d : Draft) (ds es : List Draft) (b : Bool) → (long_from (n + 1) ds ≡ None → long_from (n + 1) (ds ++ es) ≡ long_from (n + 1 + length ds) es) → (if b then Some n else long_from (n + 1) ds) ≡ None →
    (if b then Some n else long_from (n + 1) (ds ++ es)) ≡ long_from (n + 1 + length ds) es
long_of n d ds es true k h = cc
long_of n d ds es false k h = k h

pub long-append : (n : ℕ) (ds es : List Draft) → long_from n ds ≡ None → long_from n (ds ++ es) ≡ long_from (n + length ds) es
long-append n [] es h = let e : n ≡ n + 0 = omega arith in ap (λ m. long_from m es) e
long-append n (d ∷ ds) es h =
    let e : n + 1 + length ds ≡ n + length (d ∷ ds) = omega arith in
    long_of n d ds es (is_long d) (long-append (n + 1) ds es) h ∙ ap (λ m. long_from m es) e

long_in : (n unit : ℕ) (ds es : List Draft) → long_from n ds ≡ Some unit → long_from n (ds ++ es) ≡ Some unit
long_in n unit [] es h = cc
long_in n unit (d ∷ ds) es h = by (is_long d) h (long_in (n + 1) unit ds es)
  where
    by : (b : Bool) → (if b then Some n else long_from (n + 1) ds) ≡ Some unit → (long_from (n + 1) ds ≡ Some unit → long_from (n + 1) (ds ++ es) ≡ Some unit) → (if b then Some n else long_from (n + 1) (ds ++ es)) ≡ Some unit
    by true h rest = h
    by false h rest = rest h

-- ---- numbers

pub narrow-append : (ds es : List Draft) → drafts_narrow (ds ++ es) ≡ (drafts_narrow ds && drafts_narrow es)
narrow-append [] es = refl
narrow-append (d ∷ ds) es = ap (λ b. draft_narrow d && b) (narrow-append ds es) ∙ sym (and_assoc (draft_narrow d) (drafts_narrow ds) (drafts_narrow es))

-- ---- constants

pub grows_all : (vs : List Value) (ds : List Draft) → Grows vs (all_constants vs ds)
grows_all vs [] = stays vs
grows_all vs (d ∷ ds) = further (grows_in vs d.code) (grows_all (constants_in vs d.code) ds)

all-append : (vs : List Value) (ds es : List Draft) → all_constants vs (ds ++ es) ≡ all_constants (all_constants vs ds) es
all-append vs [] es = refl
all-append vs (d ∷ ds) es = all-append (constants_in vs d.code) ds es

all_still_in : {vs ws : List Value} (ds : List Draft) → Grows vs ws → AllIn vs ds → AllIn ws ds
all_still_in [] g h = tt
all_still_in (d ∷ ds) g h = (still_in d.code g h.0, all_still_in ds g h.1)

all_in-append : (vs : List Value) (ds es : List Draft) → AllIn vs ds → AllIn vs es → AllIn vs (ds ++ es)
all_in-append vs [] es h k = k
all_in-append vs (d ∷ ds) es h k = (h.0, all_in-append vs ds es h.1 k)

units_alike : {vs ws : List Value} (ds : List Draft) → Grows vs ws → AllIn vs ds → map (unit_of vs) ds ≡ map (unit_of ws) ds
units_alike [] g h = refl
units_alike {vs = vs} {ws = ws} (d ∷ ds) g h =
    ap (λ o. record { kind = d.kind; locals = d.locals; ops = o } ∷ map (unit_of vs) ds) (sym (numbered_alike d.code g h.0)) ∙ ap (λ l. unit_of ws d ∷ l) (units_alike ds g h.1)

-- ---- one after another

both_made : (a b c : Made) (ds es : List Draft) → Adds_units a b ds → Adds_units b c es → Adds_units a c (ds ++ es)
both_made a b c ds es e g =
    let grows : Grows b.constants c.constants = subst (λ (l : List Value). Grows b.constants l) (sym g.constants) (grows_all b.constants es) in
    let n : length b.units ≡ length a.units + length ds = omega (arith, ap length e.units, length-append a.units (map (unit_of b.constants) ds), length-map ds (unit_of b.constants)) in
    record {
      constants = g.constants ∙ ap (λ l. all_constants l es) e.constants ∙ sym (all-append a.constants ds es);
      units = g.units ∙ ap (λ l. l ++ map (unit_of c.constants) es) (e.units ∙ ap (λ l. a.units ++ l) (units_alike ds grows e.all_in)) ∙ append_assoc a.units (map (unit_of c.constants) ds) (map (unit_of c.constants) es)
          ∙ ap (λ l. a.units ++ l) (sym (map-append (unit_of c.constants) ds es));
      short = long-append (length a.units) ds es e.short ∙ ap (λ m. long_from m es) (sym n) ∙ g.short;
      all_in = all_in-append c.constants ds es (all_still_in ds grows e.all_in) g.all_in;
    }

given_up : (a : Made) (h : Halt) (ds es : List Draft) → AddsBy (Ok a) (Err h) ds → AddsBy (Ok a) (Err h) (ds ++ es)
given_up a (TooLong unit) ds es e = long_in (length a.units) unit ds es e
given_up a Wide ds es (inl e) = inl (narrow-append ds es ∙ ap (λ b. b && drafts_narrow es) e)
given_up a Wide ds es (inr e) = inr (omega (arith, e, length-append ds es))
given_up a NoMemory ds es e = tt

joins_by : (a b c : Stage) (ds es : List Draft) → AddsBy a b ds → AddsBy b c es → AddsBy a c (ds ++ es)
joins_by (Err h) b c ds es e g = let k : AddsBy (Err h) c es = subst (λ (s : Stage). AddsBy s c es) e g in k
joins_by (Ok a) (Err h) c ds es e g = subst (λ (s : Stage). AddsBy (Ok a) s (ds ++ es)) (sym g) (given_up a h ds es e)
joins_by (Ok a) (Ok b) (Ok c) ds es e g = both_made a b c ds es e g
joins_by (Ok a) (Ok b) (Err (TooLong unit)) ds es e g =
    let n : length b.units ≡ length a.units + length ds = omega (arith, ap length e.units, length-append a.units (map (unit_of b.constants) ds), length-map ds (unit_of b.constants)) in
    long-append (length a.units) ds es e.short ∙ ap (λ m. long_from m es) (sym n) ∙ g
joins_by (Ok a) (Ok b) (Err Wide) ds es e (inl g) = inl (narrow-append ds es ∙ ap (λ x. drafts_narrow ds && x) g ∙ and-false (drafts_narrow ds))
joins_by (Ok a) (Ok b) (Err Wide) ds es e (inr g) =
    let n : length b.units ≡ length a.units + length ds = omega (arith, ap length e.units, length-append a.units (map (unit_of b.constants) ds), length-map ds (unit_of b.constants)) in
    inr (omega (arith, g, n, length-append ds es))
joins_by (Ok a) (Ok b) (Err NoMemory) ds es e g = tt

pub joins : {a b c : Stage} {ds es : List Draft} → Adds a b ds → Adds b c es → Adds a c (ds ++ es)
joins {a = a} {b = b} {c = c} {ds = ds} {es = es} e g = record { by = joins_by a b c ds es e.by g.by }

adds_none : (a : Stage) → AddsBy a a []
adds_none (Err h) = refl
adds_none (Ok a) = record { constants = refl; units = sym (append-nil a.units); short = refl; all_in = tt }

pub nothing_adds : {a : Stage} → Adds a a []
nothing_adds {a = a} = record { by = adds_none a }

-- ---- things of a list

pub starts : (a : Stage) (ds : List Draft) → Goes a a ds ds
starts a ds = record { by = λ new h. h }

pub goes_on : {a b c : Stage} {all rest es ds : List Draft} → Goes a b all rest → rest ≡ ds ++ es → Adds b c ds → Goes a c all es
goes_on {b = b} g e h = record { by = λ new r. g.by new (subst (λ (x : List Draft). Adds b new x) (sym e) (joins h r)) }

pub all_done : {a b : Stage} {all rest : List Draft} → Goes a b all rest → rest ≡ [] → Adds a b all
all_done {b = b} g e = g.by b (subst (λ (x : List Draft). Adds b b x) (sym e) nothing_adds)
