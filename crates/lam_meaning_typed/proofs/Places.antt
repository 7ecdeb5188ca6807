-- Values by their types, what fits a place, and the arguments of calls.
use Rattle.std.proofs.Common.{◌≡◌, ℕ, ℤ, Bool, true, List, [], ◌∷◌, refl, sym, subst}
use Rattle.lam_value.specs.declared.names.Name.{Name}
use Rattle.lam_value.specs.declared.values.Value.{Value}
use Rattle.lam_value.specs.declared.values.Value.TheVariants.{Int, Bool as Truth, Bytes, Nothing, Obj, Arr, File, Dir, Pipe, Thread, Tag, Lab, CapV}
use Rattle.flow_labels.specs.declared.Label.{Label}
use Rattle.flow_labels.specs.Tags.{Tags}
use Rattle.lam_builtins.specs.Types.{int, bool, bytes, tag, label, caps, file, dir, pipe, thread, object, array, a_value, a_null, nothing, exactly, any_array, any_labelled}
use Rattle.lam_resolve_tree.specs.Tree.{ResolvedType, ResolvedGiven, ResolvedPlace, ResolvedTree}
use Rattle.lam_resolve_tree.specs.Typing.{Fits, is_object, is_labelled, exact_places}
use Rattle.lam_meaning_typed.specs.Kinds.{AreOf}
use Rattle.lam_meaning_typed.proofs.Values as kinds
use Rattle.lam_meaning_typed.proofs.Sorts.{AreBy, Sorts}

module _ {r : ResolvedTree} (S : Sorts r) where
  pub kinds_are : (G : S.Known) (ts : List ResolvedType) (vs : List Value) → AreBy (S.Is G) ts vs → AreOf ts vs
  kinds_are G [] [] h = tt
  kinds_are G [] (v ∷ vs) h = absurd h
  kinds_are G (t ∷ ts) [] h = absurd h
  kinds_are G (t ∷ ts) (v ∷ vs) h = (S.kind G t v h.0, kinds_are G ts vs h.1)

  -- ---- values of types of no things

  pub an_int : (G : S.Known) (z : ℤ) → S.Is G int (Int z)
  an_int G z = S.plain G int (Int z) refl refl

  pub a_truth : (G : S.Known) (b : Bool) → S.Is G bool (Truth b)
  a_truth G b = S.plain G bool (Truth b) refl refl

  pub a_text : (G : S.Known) (bs : List ℕ) → S.Is G bytes (Bytes bs)
  a_text G bs = S.plain G bytes (Bytes bs) refl refl

  pub a_label : (G : S.Known) (l : Label) → S.Is G label (Lab l)
  a_label G l = S.plain G label (Lab l) refl refl

  pub some_caps : (G : S.Known) (p m : Tags) → S.Is G caps (CapV p m)
  some_caps G p m = S.plain G caps (CapV p m) refl refl

  pub a_dir : (G : S.Known) (n : Name) → S.Is G dir (Dir n)
  a_dir G n = S.plain G dir (Dir n) refl refl

  -- ---- a value by its type

  pub by_number : (G : S.Known) (P : Value → Type 0) (v : Value) → S.Is G int v → ((z : ℤ) → P (Int z)) → P v
  by_number G P v h b = kinds.by_number P v (S.kind G int v h) b

  pub by_truth : (G : S.Known) (P : Value → Type 0) (v : Value) → S.Is G bool v → ((b : Bool) → P (Truth b)) → P v
  by_truth G P v h b = kinds.by_truth P v (S.kind G bool v h) b

  pub by_bytes : (G : S.Known) (P : Value → Type 0) (v : Value) → S.Is G bytes v → P Nothing → ((bs : List ℕ) → P (Bytes bs)) → P v
  by_bytes G P v h a b = kinds.by_bytes P v (S.kind G bytes v h) a b

  pub by_tag : (G : S.Known) (P : Value → Type 0) (v : Value) → S.Is G tag v → P Nothing → ((t : ℕ) → P (Tag t)) → P v
  by_tag G P v h a b = kinds.by_tag P v (S.kind G tag v h) a b

  pub by_label : (G : S.Known) (P : Value → Type 0) (v : Value) → S.Is G label v → P Nothing → ((l : Label) → P (Lab l)) → P v
  by_label G P v h a b = kinds.by_label P v (S.kind G label v h) a b

  pub by_caps : (G : S.Known) (P : Value → Type 0) (v : Value) → S.Is G caps v → P Nothing → ((p m : Tags) → P (CapV p m)) → P v
  by_caps G P v h a b = kinds.by_caps P v (S.kind G caps v h) a b

  pub by_file : (G : S.Known) (P : Value → Type 0) (v : Value) → S.Is G file v → P Nothing → ((n : Name) → P (File n)) → P v
  by_file G P v h a b = kinds.by_file P v (S.kind G file v h) a b

  pub by_dir : (G : S.Known) (P : Value → Type 0) (v : Value) → S.Is G dir v → P Nothing → ((n : Name) → P (Dir n)) → P v
  by_dir G P v h a b = kinds.by_dir P v (S.kind G dir v h) a b

  pub by_pipe : (G : S.Known) (P : Value → Type 0) (v : Value) → S.Is G pipe v → P Nothing → ((n : Name) → P (Pipe n)) → P v
  by_pipe G P v h a b = kinds.by_pipe P v (S.kind G pipe v h) a b

  pub by_thread : (G : S.Known) (P : Value → Type 0) (v : Value) → S.Is G thread v → P Nothing → ((n : ℕ) → P (Thread n)) → P v
  by_thread G P v h a b = kinds.by_thread P v (S.kind G thread v h) a b

  pub by_object : (G : S.Known) (c : ℕ) (P : Value → Type 0) (v : Value) → S.Is G (object c) v → P Nothing → ((n : Name) → S.Is G (object c) (Obj n) → P (Obj n)) → P v
  by_object G c P v h a b = kinds.by_object (λ v. S.Is G (object c) v → P v) v (S.kind G (object c) v h) (λ k. a) (λ n k. b n k) h

  pub by_array : (G : S.Known) (t : ResolvedType) (P : Value → Type 0) (v : Value) → S.Is G (array t) v → P Nothing → ((n : Name) (len : ℕ) → S.Is G (array t) (Arr n len) → P (Arr n len)) → P v
  by_array G t P v h a b = kinds.by_array (λ v. S.Is G (array t) v → P v) v (S.kind G (array t) v h) (λ k. a) (λ n len k. b n len k) h

  -- a class's or an array's
  pub by_thing : (G : S.Known) (P : Value → Type 0) (t : ResolvedType) (v : Value) → is_object t ≡ true → S.Is G t v → P Nothing → ((n : Name) → P (Obj n)) → ((n : Name) (len : ℕ) → P (Arr n len)) → P v
  by_thing G P (object c) v o h a b d = kinds.by_object P v (S.kind G (object c) v h) a b
  by_thing G P (array t) v o h a b d = kinds.by_array P v (S.kind G (array t) v h) a d
  by_thing G P t v o h a b d = absurd cc

  -- ---- what is given, and places

  abbrev pub GivesA : S.Known → ResolvedGiven → Value → Type 0
  GivesA G (a_value t) v = S.Is G t v
  GivesA G a_null v = v ≡ Nothing
  GivesA G nothing v = Unit {0}

  pub given_on : (G H : S.Known) → S.Grows G H → (g : ResolvedGiven) (v : Value) → GivesA G g v → GivesA H g v
  given_on G H more (a_value t) v h = S.is_on G H more t v h
  given_on G H more a_null v h = h
  given_on G H more nothing v h = h

  pub fits_a : (G : S.Known) (t : ResolvedType) (g : ResolvedGiven) (v : Value) → Fits (exactly t) g → GivesA G g v → S.Is G t v
  fits_a G t (a_value u) v f h = subst (λ t. S.Is G t v) f h
  fits_a G t a_null v f h = subst (λ v. S.Is G t v) (sym h) (S.null_of G t f)
  fits_a G t nothing v f h = absurd f

  -- a value at a place
  abbrev pub At : S.Known → ResolvedPlace → Value → Type 0
  At G w v = (g : ResolvedGiven) × Fits w g × GivesA G g v

  abbrev pub RestAre : S.Known → List ResolvedPlace → List Value → Type 0
  RestAre G [] [] = Unit {0}
  RestAre G [] (v ∷ vs) = ⊥
  RestAre G (w ∷ ws) [] = ⊥
  RestAre G (w ∷ ws) (v ∷ vs) = At G w v × RestAre G ws vs

  -- arguments at their places, of which the first gives `first`
  abbrev pub ArgsAre : S.Known → List ResolvedPlace → ResolvedGiven → List Value → Type 0
  ArgsAre G [] first [] = first ≡ nothing
  ArgsAre G [] first (v ∷ vs) = ⊥
  ArgsAre G (w ∷ ws) first [] = ⊥
  ArgsAre G (w ∷ ws) first (v ∷ vs) = Fits w first × GivesA G first v × RestAre G ws vs

  exact_rest : (G : S.Known) (ts : List ResolvedType) (vs : List Value) → RestAre G (exact_places ts) vs → AreBy (S.Is G) ts vs
  exact_rest G [] [] h = tt
  exact_rest G [] (v ∷ vs) h = absurd h
  exact_rest G (t ∷ ts) [] h = absurd h
  exact_rest G (t ∷ ts) (v ∷ vs) h = (fits_a G t h.0.0 v h.0.1 h.0.2, exact_rest G ts vs h.1)

  pub exact_args : (G : S.Known) (ts : List ResolvedType) (first : ResolvedGiven) (vs : List Value) → ArgsAre G (exact_places ts) first vs → AreBy (S.Is G) ts vs
  exact_args G [] first [] h = tt
  exact_args G [] first (v ∷ vs) h = absurd h
  exact_args G (t ∷ ts) first [] h = absurd h
  exact_args G (t ∷ ts) first (v ∷ vs) h = (fits_a G t first v h.0 h.1, exact_rest G ts vs h.2)

  -- ---- places of several types: P of null and of each value

  pub at_exactly : (G : S.Known) (t : ResolvedType) (v : Value) → At G (exactly t) v → S.Is G t v
  at_exactly G t v h = fits_a G t h.0 v h.1 h.2

  pub in_array : (G : S.Known) (P : Value → Type 0) (g : ResolvedGiven) (v : Value) → Fits any_array g → GivesA G g v → P Nothing → ((n : Name) (len : ℕ) → P (Arr n len)) → P v
  in_array G P (a_value u) v f h a b = by_array G f.0 P v (subst (λ u. S.Is G u v) f.1 h) a (λ n len e. b n len)
  in_array G P a_null v f h a b = absurd f
  in_array G P nothing v f h a b = absurd f

  labelled_type : (G : S.Known) (P : Value → Type 0) (t : ResolvedType) (v : Value) → is_labelled t ≡ true → S.Is G t v → P Nothing → ((n : Name) → P (Obj n)) → ((n : Name) (len : ℕ) → P (Arr n len)) → ((n : Name) → P (File n)) → ((n : Name) → P (Dir n)) → ((n : Name) → P (Pipe n)) → P v
  labelled_type G P (object c) v o h a b d e f g = by_object G c P v h a (λ n e. b n)
  labelled_type G P (array t) v o h a b d e f g = by_array G t P v h a (λ n len e. d n len)
  labelled_type G P file v o h a b d e f g = by_file G P v h a e
  labelled_type G P dir v o h a b d e f g = by_dir G P v h a f
  labelled_type G P pipe v o h a b d e f g = by_pipe G P v h a g
  labelled_type G P t v o h a b d e f g = absurd cc

  pub in_labelled : (G : S.Known) (P : Value → Type 0) (g : ResolvedGiven) (v : Value) → Fits any_labelled g → GivesA G g v → P Nothing → ((n : Name) → P (Obj n)) → ((n : Name) (len : ℕ) → P (Arr n len)) → ((n : Name) → P (File n)) → ((n : Name) → P (Dir n)) → ((n : Name) → P (Pipe n)) → P v
  in_labelled G P (a_value u) v o h a b d e f g = labelled_type G P u v o h a b d e f g
  in_labelled G P a_null v o h a b d e f g = absurd o
  in_labelled G P nothing v o h a b d e f g = absurd o
