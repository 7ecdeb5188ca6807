-- What operators and built-in calls give, of values of their types.
use Rattle.std.proofs.Common.{◌≡◌, ℕ, ℤ, pos, negsuc, Bool, true, false, List, [], ◌∷◌, ◌++◌, Option, Some, None, ◌⊎◌, inl, inr, refl, sym, ap, subst}
use Rattle.std.specs.Prelude.{neg_ℤ, if◌then◌else◌, nat_le, ◌||◌, ◌&&◌, length, slice_get}
use Rattle.flow_labels.specs.declared.Label.{Label}
use Rattle.capabilities.specs.declared.Caps.{Caps}
use Rattle.lam_value.specs.declared.names.Name.{Name}
use Rattle.lam_value.specs.declared.values.Value.{Value}
use Rattle.lam_value.specs.declared.values.Value.TheVariants.{Int, Bytes, Nothing, Obj, Arr, File, Dir, Pipe, Tag, Lab, CapV}
use Rattle.lam_operators.specs.declared.UnaryOp.{UnaryOp}
use Rattle.lam_operators.specs.declared.UnaryOp.TheVariants.{Not, Neg}
use Rattle.lam_builtins.specs.declared.Builtin.{Builtin}
use Rattle.lam_builtins.specs.declared.Builtin.TheVariants as call
use Rattle.lam_builtins.specs.Types.{int, bool, bytes, tag, label, caps, file, dir, pipe, thread, object, array, a_value, a_null, nothing, exactly, any_object, any_array, any_labelled}
use Rattle.lam_builtins.specs.Operators.{unary_type}
use Rattle.lam_builtins.specs.Builtins.{row_by, answered}
use Rattle.lam_asks.specs.declared.fault.Fault.TheVariants.{Zero, Overflow, Null}
use Rattle.lam_asks.specs.declared.ask.Ask.{Ask}
use Rattle.lam_asks.specs.declared.ask.Ask.TheVariants as ask
use Rattle.lam_asks.specs.Suits.{Sort, numbers, is_done, is_value, want_of}
use Rattle.lam_meaning.specs.Operators.{Pure, fine, faults, wrong, number, is_small, of_numbers, by_divisor, is_zero, prefix, is_null, some_null, tags_in, tag_before, label_by, label_from, with_sign}
use Rattle.lam_meaning.specs.Builtins as calls
use Rattle.lam_meaning.specs.Builtins.{Calls, builtin}
use Rattle.lam_resolve_tree.specs.Tree.{ResolvedType, ResolvedGiven, ResolvedPlace, ResolvedTree}
use Rattle.lam_resolve_tree.specs.Typing.{Fits, is_object}
use Rattle.lam_meaning.specs.Trees.{asked}
use Rattle.lam_meaning.specs.Means.{sort_of}
use Rattle.lam_meaning_typed.proofs.Sorts.{is_simple, Sorts, AsksFor, gives_plain, gives_own}
use Rattle.lam_meaning_typed.proofs.Places.{an_int, a_truth, a_text, a_label, some_caps, a_dir, by_number, by_truth, by_bytes, by_tag, by_label, by_caps, by_file, by_dir, by_pipe, by_thread, by_object, by_array, GivesA, ArgsAre, at_exactly, fits_a, in_array, in_labelled}

-- ---- operators

abbrev pub PureIs : (Value → Type 0) → Pure → Type 0
PureIs Q (fine v) = Q v
PureIs Q (faults f) = Unit {0}
PureIs Q wrong = ⊥

pub divided_is : (Q : Value → Type 0) (z : ℤ) (p : Pure) → PureIs Q p → PureIs Q (by_divisor z p)
divided_is Q z p h = go (is_zero z)
  where
    go : (b : Bool) → PureIs Q (if b then faults Zero else p)
    go true = tt
    go false = h

-- ---- labels of tags

abbrev AllTags : List Value → Type 0
AllTags vs = (ts : List ℕ) × (tags_in vs ≡ Some ts)

-- some is null, or all are tags
abbrev NullOrTags : List Value → Type 0
NullOrTags vs = (some_null vs ≡ true) ⊎ AllTags vs

or_right : (a b : Bool) → b ≡ true → (a || b) ≡ true
or_right true b e = refl
or_right false b e = e

null_before : (s i : List Value) → some_null s ≡ true → some_null (s ++ i) ≡ true
null_before [] i e = absurd cc
null_before (v ∷ vs) i e = go (is_null v) e (λ e. null_before vs i e)
  where
    go : (b : Bool) → (b || some_null vs) ≡ true → (some_null vs ≡ true → some_null (vs ++ i) ≡ true) → (b || some_null (vs ++ i)) ≡ true
    go true e h = refl
    go false e h = h e

null_after : (s i : List Value) → some_null i ≡ true → some_null (s ++ i) ≡ true
null_after [] i e = e
null_after (v ∷ vs) i e = or_right (is_null v) (some_null (vs ++ i)) (null_after vs i e)

module _ {r : ResolvedTree} (S : Sorts r) (G : S.Known) where
  pub number_is : (z : ℤ) → PureIs (λ v. S.Is G int v) (number z)
  number_is z = go (is_small z)
    where
      go : (b : Bool) → PureIs (λ v. S.Is G int v) (if b then fine (Int z) else faults Overflow)
      go true = an_int S G z
      go false = tt

  pub prefix_is : (op : UnaryOp) (v : Value) → S.Is G (unary_type op) v → PureIs (λ v. S.Is G (unary_type op) v) (prefix op v)
  prefix_is Not v h = by_truth S G (λ v. PureIs (λ v. S.Is G bool v) (prefix Not v)) v h (λ b. a_truth S G _)
  prefix_is Neg v h = by_number S G (λ v. PureIs (λ v. S.Is G int v) (prefix Neg v)) v h (λ z. number_is (neg_ℤ z))

  pub numbers_is : (Q : Value → Type 0) (f : ℤ → ℤ → Pure) (v w : Value) → S.Is G int v → S.Is G int w → ((a b : ℤ) → PureIs Q (f a b)) → PureIs Q (of_numbers f v w)
  numbers_is Q f v w h k on = by_number S G (λ v. PureIs Q (of_numbers f v w)) v h (λ a. by_number S G (λ w. PureIs Q (of_numbers f (Int a) w)) w k (λ b. on a b))

  pub sign_is : (plus : Bool) (c t : Value) → S.Is G caps c → S.Is G tag t → PureIs (λ v. S.Is G caps v) (with_sign plus c t)
  sign_is true c t h k =
      by_caps S G (λ c. PureIs (λ v. S.Is G caps v) (with_sign true c t)) c h
      (by_tag S G (λ t. PureIs (λ v. S.Is G caps v) (with_sign true Nothing t)) t k tt (λ t. tt))
      (λ p m. by_tag S G (λ t. PureIs (λ v. S.Is G caps v) (with_sign true (CapV p m) t)) t k tt (λ t. some_caps S G _ _))
  sign_is false c t h k =
      by_caps S G (λ c. PureIs (λ v. S.Is G caps v) (with_sign false c t)) c h
      (by_tag S G (λ t. PureIs (λ v. S.Is G caps v) (with_sign false Nothing t)) t k tt (λ t. tt))
      (λ p m. by_tag S G (λ t. PureIs (λ v. S.Is G caps v) (with_sign false (CapV p m) t)) t k tt (λ t. some_caps S G _ _))

  -- ---- labels of tags

  abbrev pub AreTagValues : List Value → Type 0
  AreTagValues [] = Unit {0}
  AreTagValues (v ∷ vs) = S.Is G tag v × AreTagValues vs

  tag_first : (v : Value) (vs : List Value) → S.Is G tag v → NullOrTags vs → NullOrTags (v ∷ vs)
  tag_first v vs h (inl e) = inl (or_right (is_null v) (some_null vs) e)
  tag_first v vs h (inr (ts, e)) = by_tag S G (λ v. NullOrTags (v ∷ vs)) v h (inl refl) (λ t. inr (t ∷ ts, ap (λ o. tag_before (Tag t) o) e))

  null_or_tags : (vs : List Value) → AreTagValues vs → NullOrTags vs
  null_or_tags [] h = inr ([], refl)
  null_or_tags (v ∷ vs) h = tag_first v vs h.0 (null_or_tags vs h.1)

  pub label_is : (s i : List Value) → AreTagValues s → AreTagValues i → PureIs (λ v. S.Is G label v) (label_from s i)
  label_is s i h k = go (null_or_tags s h) (null_or_tags i k)
    where
      nulls : (b : Bool) (p : Pure) → b ≡ true → PureIs (λ v. S.Is G label v) (if b then faults Null else p)
      nulls true p e = tt
      nulls false p e = absurd cc

      either : (b : Bool) (p : Pure) → PureIs (λ v. S.Is G label v) p → PureIs (λ v. S.Is G label v) (if b then faults Null else p)
      either true p e = tt
      either false p e = e

      go : NullOrTags s → NullOrTags i → PureIs (λ v. S.Is G label v) (label_from s i)
      go (inl e) y = nulls (some_null (s ++ i)) _ (null_before s i e)
      go (inr x) (inl e) = nulls (some_null (s ++ i)) _ (null_after s i e)
      go (inr (ts, e)) (inr (us, f)) =
          either (some_null (s ++ i)) _
          (subst (λ a. PureIs (λ v. S.Is G label v) (label_by a (tags_in i))) (sym e) (subst (λ b. PureIs (λ v. S.Is G label v) (label_by (Some ts) b)) (sym f) (a_label S G _)))

  -- ---- built-in calls

  -- a call that asks has what is answered as its result
  pub record CallsAsk (g : ResolvedGiven) (a : Ask) : Type 0 where
    pub result : ResolvedType
    pub same : g ≡ a_value result
    pub given : (s : Sort) → AsksFor S G (asked s a) result

  -- what a call does, where it gives this
  abbrev pub CallsIs : ResolvedGiven → Calls → Type 0
  CallsIs g (calls.now v) = GivesA S G g v
  CallsIs g (calls.faults f) = Unit {0}
  CallsIs g (calls.asks a) = CallsAsk g a
  CallsIs g (calls.acts a) = S.IsAsk G int (asked numbers a) × ((want_of numbers a).gives ≡ is_done) × GivesA S G g Nothing
  CallsIs g calls.wrong = ⊥

  plainly : (t : ResolvedType) (a : Ask) → is_object t ≡ false → is_simple a ≡ true → ((s u : Sort) → want_of s a ≡ want_of u a) → ((s : Sort) → (want_of s a).gives ≡ is_value (sort_of t)) → CallsIs (a_value t) (calls.asks a)
  plainly t a o e one gives = record { result = t; same = refl; given = λ s. gives_plain S G int (asked s a) t o (gives s) (S.simple G s a e (one s)) }

  acted : (a : Ask) → is_simple a ≡ true → ((u : Sort) → want_of numbers a ≡ want_of u a) → (want_of numbers a).gives ≡ is_done → CallsIs nothing (calls.acts a)
  acted a e one gives = (S.simple G numbers a e one, gives, tt)

  if_is : (g : ResolvedGiven) (b : Bool) (x y : Calls) → CallsIs g x → CallsIs g y → CallsIs g (if b then x else y)
  if_is g true x y h k = h
  if_is g false x y h k = k

  byte_now_is : (o : Option ℕ) → CallsIs (a_value int) (calls.byte_now o)
  byte_now_is None = tt
  byte_now_is (Some b) = an_int S G _

  byte_at_is : (bs : List ℕ) (z : ℤ) → CallsIs (a_value int) (calls.byte_at bs z)
  byte_at_is bs (negsuc n) = tt
  byte_at_is bs (pos n) = byte_now_is (slice_get bs n)

  slice_at_is : (bs : List ℕ) (a b : ℤ) → CallsIs (a_value bytes) (calls.slice_at bs a b)
  slice_at_is bs (pos i) (pos j) = if_is (a_value bytes) (nat_le i j && nat_le j (length bs)) _ _ (a_text S G _) tt
  slice_at_is bs (pos i) (negsuc j) = tt
  slice_at_is bs (negsuc i) b = tt

  number_in_is : (o : Option ℤ) → CallsIs (a_value int) (calls.number_in o)
  number_in_is None = tt
  number_in_is (Some z) = an_int S G z

  number_now_is : (z : ℤ) → CallsIs (a_value int) (calls.number_now z)
  number_now_is z = if_is (a_value int) (is_small z) _ _ (an_int S G z) tt

  bytes_now_is : (bs : List ℕ) → CallsIs (a_value bytes) (calls.bytes_now bs)
  bytes_now_is bs = if_is (a_value bytes) (nat_le (length bs) 65536) _ _ (a_text S G bs) tt

  read_from_is : (f : Name) (a n : ℤ) → CallsIs (a_value bytes) (calls.read_from f a n)
  read_from_is f (pos a) (pos n) = if_is (a_value bytes) (nat_le n 65536) _ _ (plainly bytes (ask.FileRead f a n) refl refl (λ s u. refl) (λ s. refl)) tt
  read_from_is f (pos a) (negsuc n) = tt
  read_from_is f (negsuc a) n = tt

  cut_to_is : (f : Name) (n : ℤ) → CallsIs nothing (calls.cut_to f n)
  cut_to_is f (pos n) = acted (ask.Cut f n) refl (λ u. refl) refl
  cut_to_is f (negsuc n) = tt

  -- ---- arguments

  no_args : (P : List Value → Type 0) (first : ResolvedGiven) (vs : List Value) → ArgsAre S G [] first vs → P [] → P vs
  no_args P first [] h on = on
  no_args P first (v ∷ vs) h on = absurd h

  one_arg : (P : List Value → Type 0) (w : ResolvedPlace) (first : ResolvedGiven) (vs : List Value) → ArgsAre S G (w ∷ []) first vs → ((v : Value) → Fits w first → GivesA S G first v → P (v ∷ [])) → P vs
  one_arg P w first [] h on = absurd h
  one_arg P w first (v ∷ []) h on = on v h.0 h.1
  one_arg P w first (v ∷ x ∷ vs) h on = absurd h.2

  two_args : (P : List Value → Type 0) (w : ResolvedPlace) (u : ResolvedType) (first : ResolvedGiven) (vs : List Value) → ArgsAre S G (w ∷ exactly u ∷ []) first vs → ((v x : Value) → Fits w first → GivesA S G first v → S.Is G u x → P (v ∷ x ∷ [])) → P vs
  two_args P w u first [] h on = absurd h
  two_args P w u first (v ∷ []) h on = absurd h.2
  two_args P w u first (v ∷ x ∷ []) h on = on v x h.0 h.1 (at_exactly S G u x h.2.0)
  two_args P w u first (v ∷ x ∷ y ∷ vs) h on = absurd h.2.1

  three_args : (P : List Value → Type 0) (t u z : ResolvedType) (first : ResolvedGiven) (vs : List Value) → ArgsAre S G (exactly t ∷ exactly u ∷ exactly z ∷ []) first vs → ((v x y : Value) → S.Is G t v → S.Is G u x → S.Is G z y → P (v ∷ x ∷ y ∷ [])) → P vs
  three_args P t u z first [] h on = absurd h
  three_args P t u z first (v ∷ []) h on = absurd h.2
  three_args P t u z first (v ∷ x ∷ []) h on = absurd h.2.1
  three_args P t u z first (v ∷ x ∷ y ∷ []) h on = on v x y (fits_a S G t first v h.0 h.1) (at_exactly S G u x h.2.0) (at_exactly S G z y h.2.1.0)
  three_args P t u z first (v ∷ x ∷ y ∷ q ∷ vs) h on = absurd h.2.1.1

  one_exact : (P : List Value → Type 0) (t : ResolvedType) (first : ResolvedGiven) (vs : List Value) → ArgsAre S G (exactly t ∷ []) first vs → ((v : Value) → S.Is G t v → P (v ∷ [])) → P vs
  one_exact P t first vs h on = one_arg P (exactly t) first vs h (λ v f k. on v (fits_a S G t first v f k))

  two_exact : (P : List Value → Type 0) (t u : ResolvedType) (first : ResolvedGiven) (vs : List Value) → ArgsAre S G (exactly t ∷ exactly u ∷ []) first vs → ((v x : Value) → S.Is G t v → S.Is G u x → P (v ∷ x ∷ [])) → P vs
  two_exact P t u first vs h on = two_args P (exactly t) u first vs h (λ v x f k i. on v x (fits_a S G t first v f k) i)

  -- ---- the table

  module _ (p : Label) (c : Caps) where
    -- a directory, bytes and a label
    named_with : (g : ResolvedGiven) (b : Builtin) (first : ResolvedGiven) (vs : List Value) → ArgsAre S G (exactly dir ∷ exactly bytes ∷ exactly label ∷ []) first vs → ((d : Name) (n : List ℕ) (l : Label) → CallsIs g (calls.calls p c b (Dir d ∷ Bytes n ∷ Lab l ∷ []))) → CallsIs g (builtin p c b vs)
    unfolding builtin
    named_with g b first vs h on =
        three_args (λ vs. CallsIs g (builtin p c b vs)) dir bytes label first vs h (λ v x y i j k.
        by_dir S G (λ v. CallsIs g (builtin p c b (v ∷ x ∷ y ∷ []))) v i tt (λ d. by_bytes S G (λ x. CallsIs g (builtin p c b (Dir d ∷ x ∷ y ∷ []))) x j tt (λ n. by_label S G (λ y. CallsIs g (builtin p c b (Dir d ∷ Bytes n ∷ y ∷ []))) y k tt (λ l. on d n l))))

    -- a directory and bytes
    named_in : (g : ResolvedGiven) (b : Builtin) (first : ResolvedGiven) (vs : List Value) → ArgsAre S G (exactly dir ∷ exactly bytes ∷ []) first vs → ((d : Name) (n : List ℕ) → CallsIs g (calls.calls p c b (Dir d ∷ Bytes n ∷ []))) → CallsIs g (builtin p c b vs)
    unfolding builtin
    named_in g b first vs h on =
        two_exact (λ vs. CallsIs g (builtin p c b vs)) dir bytes first vs h (λ v x i j.
        by_dir S G (λ v. CallsIs g (builtin p c b (v ∷ x ∷ []))) v i tt (λ d. by_bytes S G (λ x. CallsIs g (builtin p c b (Dir d ∷ x ∷ []))) x j tt (λ n. on d n)))

    -- one argument of a type that may be null
    of_bytes : (g : ResolvedGiven) (b : Builtin) (first : ResolvedGiven) (vs : List Value) → ArgsAre S G (exactly bytes ∷ []) first vs → ((bs : List ℕ) → CallsIs g (calls.calls p c b (Bytes bs ∷ []))) → CallsIs g (builtin p c b vs)
    unfolding builtin
    of_bytes g b first vs h on = one_exact (λ vs. CallsIs g (builtin p c b vs)) bytes first vs h (λ v i. by_bytes S G (λ v. CallsIs g (builtin p c b (v ∷ []))) v i tt on)

    of_pipe : (g : ResolvedGiven) (b : Builtin) (first : ResolvedGiven) (vs : List Value) → ArgsAre S G (exactly pipe ∷ []) first vs → ((n : Name) → CallsIs g (calls.calls p c b (Pipe n ∷ []))) → CallsIs g (builtin p c b vs)
    unfolding builtin
    of_pipe g b first vs h on = one_exact (λ vs. CallsIs g (builtin p c b vs)) pipe first vs h (λ v i. by_pipe S G (λ v. CallsIs g (builtin p c b (v ∷ []))) v i tt on)

    copy_is : (first : ResolvedGiven) (v x : Value) → Fits any_object first → GivesA S G first v → S.Is G label x → CallsIs first (builtin p c call.Copy (v ∷ x ∷ []))
    unfolding builtin
    copy_is (a_value (object d)) v x f h k =
        by_object S G d (λ v. CallsIs (a_value (object d)) (builtin p c call.Copy (v ∷ x ∷ []))) v h tt (λ n i.
        by_label S G (λ x. CallsIs (a_value (object d)) (builtin p c call.Copy (Obj n ∷ x ∷ []))) x k tt (λ l. record { result = object d; same = refl; given = λ s. gives_own S G (asked s (ask.CopyTo (Obj n) l)) (object d) refl refl (S.copies_object G s d n l i) }))
    copy_is (a_value (array t)) v x f h k =
        by_array S G t (λ v. CallsIs (a_value (array t)) (builtin p c call.Copy (v ∷ x ∷ []))) v h tt (λ n len i.
        by_label S G (λ x. CallsIs (a_value (array t)) (builtin p c call.Copy (Arr n len ∷ x ∷ []))) x k tt (λ l. record { result = array t; same = refl; given = λ s. gives_own S G (asked s (ask.CopyTo (Arr n len) l)) (array t) refl refl (S.copies_array G s t n len l i) }))
    copy_is (a_value t) v x f h k = absurd cc
    copy_is a_null v x f h k = absurd f
    copy_is nothing v x f h k = absurd f

    -- a line for each call
    pub builtin_is : (b : Builtin) (first : ResolvedGiven) (vs : List Value) → ArgsAre S G (row_by ℕ b).signature.takes first vs → CallsIs (answered (row_by ℕ b).signature.answer first) (builtin p c b vs)
    unfolding builtin
    builtin_is call.Len first vs h =
        one_arg (λ vs. CallsIs (a_value int) (builtin p c call.Len vs)) any_array first vs h (λ v f k.
        in_array S G (λ v. CallsIs (a_value int) (builtin p c call.Len (v ∷ []))) first v f k tt (λ n len. number_now_is (pos len)))
    builtin_is call.Size first vs h = of_bytes (a_value int) call.Size first vs h (λ bs. number_now_is (pos (length bs)))
    builtin_is call.Byte first vs h =
        two_exact (λ vs. CallsIs (a_value int) (builtin p c call.Byte vs)) bytes int first vs h (λ v x i j.
        by_bytes S G (λ v. CallsIs (a_value int) (builtin p c call.Byte (v ∷ x ∷ []))) v i tt (λ bs. by_number S G (λ x. CallsIs (a_value int) (builtin p c call.Byte (Bytes bs ∷ x ∷ []))) x j (λ z. byte_at_is bs z)))
    builtin_is call.Slice first vs h =
        three_args (λ vs. CallsIs (a_value bytes) (builtin p c call.Slice vs)) bytes int int first vs h (λ v x y i j k.
        by_bytes S G (λ v. CallsIs (a_value bytes) (builtin p c call.Slice (v ∷ x ∷ y ∷ []))) v i tt (λ bs. by_number S G (λ x. CallsIs (a_value bytes) (builtin p c call.Slice (Bytes bs ∷ x ∷ y ∷ []))) x j (λ a.
        by_number S G (λ y. CallsIs (a_value bytes) (builtin p c call.Slice (Bytes bs ∷ Int a ∷ y ∷ []))) y k (λ b. slice_at_is bs a b))))
    builtin_is call.Cat first vs h =
        two_exact (λ vs. CallsIs (a_value bytes) (builtin p c call.Cat vs)) bytes bytes first vs h (λ v x i j.
        by_bytes S G (λ v. CallsIs (a_value bytes) (builtin p c call.Cat (v ∷ x ∷ []))) v i tt (λ bs. by_bytes S G (λ x. CallsIs (a_value bytes) (builtin p c call.Cat (Bytes bs ∷ x ∷ []))) x j tt (λ cs. bytes_now_is (bs ++ cs))))
    builtin_is call.Text first vs h =
        one_exact (λ vs. CallsIs (a_value bytes) (builtin p c call.Text vs)) int first vs h (λ v i. by_number S G (λ v. CallsIs (a_value bytes) (builtin p c call.Text (v ∷ []))) v i (λ z. a_text S G _))
    builtin_is call.Number first vs h = of_bytes (a_value int) call.Number first vs h (λ bs. number_in_is _)
    builtin_is call.MyLabel first vs h = no_args (λ vs. CallsIs (a_value label) (builtin p c call.MyLabel vs)) first vs h (a_label S G p)
    builtin_is call.MyCaps first vs h = no_args (λ vs. CallsIs (a_value caps) (builtin p c call.MyCaps vs)) first vs h (some_caps S G _ _)
    builtin_is call.Root first vs h = no_args (λ vs. CallsIs (a_value dir) (builtin p c call.Root vs)) first vs h (a_dir S G _)
    builtin_is call.LabelOf first vs h =
        one_arg (λ vs. CallsIs (a_value label) (builtin p c call.LabelOf vs)) any_labelled first vs h (λ v f k.
        in_labelled S G (λ v. CallsIs (a_value label) (builtin p c call.LabelOf (v ∷ []))) first v f k tt (λ n. a_label S G _) (λ n len. a_label S G _) (λ n. a_label S G _) (λ n. a_label S G _) (λ n. a_label S G _))
    builtin_is call.Copy first vs h = two_args (λ vs. CallsIs first (builtin p c call.Copy vs)) any_object label first vs h (λ v x f k i. copy_is first v x f k i)
    builtin_is call.Mint first vs h = no_args (λ vs. CallsIs (a_value tag) (builtin p c call.Mint vs)) first vs h (plainly tag ask.Mint refl refl (λ s u. refl) (λ s. refl))
    builtin_is call.Say first vs h = of_bytes nothing call.Say first vs h (λ bs. acted (ask.Say bs) refl (λ u. refl) refl)
    builtin_is call.MakeFile first vs h = named_with (a_value file) call.MakeFile first vs h (λ d n l. plainly file (ask.MakeFile d n l) refl refl (λ s u. refl) (λ s. refl))
    builtin_is call.MakeDir first vs h = named_with (a_value dir) call.MakeDir first vs h (λ d n l. plainly dir (ask.MakeDir d n l) refl refl (λ s u. refl) (λ s. refl))
    builtin_is call.OpenFile first vs h = named_in (a_value file) call.OpenFile first vs h (λ d n. plainly file (ask.OpenFile d n) refl refl (λ s u. refl) (λ s. refl))
    builtin_is call.OpenDir first vs h = named_in (a_value dir) call.OpenDir first vs h (λ d n. plainly dir (ask.OpenDir d n) refl refl (λ s u. refl) (λ s. refl))
    builtin_is call.Remove first vs h = named_in nothing call.Remove first vs h (λ d n. acted (ask.Remove d n) refl (λ u. refl) refl)
    builtin_is call.Read first vs h =
        three_args (λ vs. CallsIs (a_value bytes) (builtin p c call.Read vs)) file int int first vs h (λ v x y i j k.
        by_file S G (λ v. CallsIs (a_value bytes) (builtin p c call.Read (v ∷ x ∷ y ∷ []))) v i tt (λ f. by_number S G (λ x. CallsIs (a_value bytes) (builtin p c call.Read (File f ∷ x ∷ y ∷ []))) x j (λ a.
        by_number S G (λ y. CallsIs (a_value bytes) (builtin p c call.Read (File f ∷ Int a ∷ y ∷ []))) y k (λ n. read_from_is f a n))))
    builtin_is call.Length first vs h =
        one_exact (λ vs. CallsIs (a_value int) (builtin p c call.Length vs)) file first vs h (λ v i. by_file S G (λ v. CallsIs (a_value int) (builtin p c call.Length (v ∷ []))) v i tt (λ f. plainly int (ask.FileLength f) refl refl (λ s u. refl) (λ s. refl)))
    builtin_is call.Append first vs h =
        two_exact (λ vs. CallsIs nothing (builtin p c call.Append vs)) file bytes first vs h (λ v x i j.
        by_file S G (λ v. CallsIs nothing (builtin p c call.Append (v ∷ x ∷ []))) v i tt (λ f. by_bytes S G (λ x. CallsIs nothing (builtin p c call.Append (File f ∷ x ∷ []))) x j tt (λ bs. acted (ask.Append f bs) refl (λ u. refl) refl)))
    builtin_is call.Cut first vs h =
        two_exact (λ vs. CallsIs nothing (builtin p c call.Cut vs)) file int first vs h (λ v x i j.
        by_file S G (λ v. CallsIs nothing (builtin p c call.Cut (v ∷ x ∷ []))) v i tt (λ f. by_number S G (λ x. CallsIs nothing (builtin p c call.Cut (File f ∷ x ∷ []))) x j (λ n. cut_to_is f n)))
    builtin_is call.MakePipe first vs h =
        one_exact (λ vs. CallsIs (a_value pipe) (builtin p c call.MakePipe vs)) label first vs h (λ v i. by_label S G (λ v. CallsIs (a_value pipe) (builtin p c call.MakePipe (v ∷ []))) v i tt (λ l. plainly pipe (ask.MakePipe l) refl refl (λ s u. refl) (λ s. refl)))
    builtin_is call.Send first vs h =
        two_exact (λ vs. CallsIs nothing (builtin p c call.Send vs)) pipe bytes first vs h (λ v x i j.
        by_pipe S G (λ v. CallsIs nothing (builtin p c call.Send (v ∷ x ∷ []))) v i tt (λ d. by_bytes S G (λ x. CallsIs nothing (builtin p c call.Send (Pipe d ∷ x ∷ []))) x j tt (λ bs. if_is nothing (nat_le (length bs) 4096) _ _ (acted (ask.Send d bs) refl (λ u. refl) refl) tt)))
    builtin_is call.SendCaps first vs h =
        two_exact (λ vs. CallsIs nothing (builtin p c call.SendCaps vs)) pipe caps first vs h (λ v x i j.
        by_pipe S G (λ v. CallsIs nothing (builtin p c call.SendCaps (v ∷ x ∷ []))) v i tt (λ d. by_caps S G (λ x. CallsIs nothing (builtin p c call.SendCaps (Pipe d ∷ x ∷ []))) x j tt (λ a b. acted (ask.SendCaps d (record { plus = a; minus = b })) refl (λ u. refl) refl)))
    builtin_is call.Receive first vs h = of_pipe (a_value bytes) call.Receive first vs h (λ d. plainly bytes (ask.Receive d) refl refl (λ s u. refl) (λ s. refl))
    builtin_is call.ReceiveCaps first vs h = of_pipe (a_value caps) call.ReceiveCaps first vs h (λ d. plainly caps (ask.ReceiveCaps d) refl refl (λ s u. refl) (λ s. refl))
    builtin_is call.Join first vs h =
        one_exact (λ vs. CallsIs (a_value int) (builtin p c call.Join vs)) thread first vs h (λ v i. by_thread S G (λ v. CallsIs (a_value int) (builtin p c call.Join (v ∷ []))) v i tt (λ t. plainly int (ask.Join t) refl refl (λ s u. refl) (λ s. refl)))
