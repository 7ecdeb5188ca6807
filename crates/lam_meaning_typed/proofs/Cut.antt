-- Of two trees the first is the second, cut off at places where it is spent.
use Rattle.std.proofs.Common.{◌≡◌, ℕ, zero, suc, ℤ, pos, negsuc, ◌≤◌, Bool, true, false, Option, Some, None, refl, sym, ap, subst, arith}
use Rattle.std.specs.Prelude.{if◌then◌else◌, nat_lt}
use Rattle.flow_labels.specs.declared.Label.{Label}
use Rattle.flow_labels.specs.declared.Denied.{Denied as Denial}
use Rattle.capabilities.specs.declared.Caps.{Caps}
use Rattle.lam_value.specs.declared.names.Name.{Name}
use Rattle.lam_value.specs.declared.values.Value.{Value}
use Rattle.lam_value.specs.declared.values.Value.TheVariants.{Int, Bool as Truth, Nothing, Obj, Arr, Lab, CapV}
use Rattle.lam_asks.specs.declared.fault.Fault.TheVariants.{Denied, Index}
use Rattle.lam_asks.specs.declared.answer.Answer.{Answer}
use Rattle.lam_asks.specs.declared.answer.Answer.TheVariants.{Done, Entered, Val, Refused, Failed}
use Rattle.lam_asks.specs.declared.ask.Ask.{Ask}
use Rattle.lam_asks.specs.declared.ask.Ask.TheVariants as ask
use Rattle.lam_meaning.specs.Operators.{Pure, fine, faults, wrong}
use Rattle.lam_meaning.specs.Trees.{Own, Asked, End, goes, raises, leaves, Tree, ends, spent, broken, asks, on_end, next, and_then, fails, spend, purely, value_reply, ask_value, nothing_gained, done_reply, ask_done, ask_unit, unless_denied, on_object, on_array, on_thing, on_truth, on_caps, on_region}
use Rattle.lam_meaning.specs.Means.{within, on_number}

abbrev pub left_of : {A : Type 0} → End A → ℕ
left_of (goes a n o) = n
left_of (raises f n o) = n
left_of (leaves v n o) = n

abbrev pub with_left : {A : Type 0} → End A → ℕ → End A
with_left (goes a n o) m = goes a m o
with_left (raises f n o) m = raises f m o
with_left (leaves v n o) m = leaves v m o

abbrev pub Cut : {A : Type 0} → Tree A → Tree A → Type 0
Cut (ends e) t = (m : ℕ) × (left_of e ≤ m) × (t ≡ ends (with_left e m))
Cut spent t = Unit {0}
Cut broken t = t ≡ broken
Cut (asks q k) t = (j : Answer → Tree _) × (t ≡ asks q j) × ((x : Answer) → Cut (k x) (j x))

-- the one induction over trees
pub end_cut : {A B : Type 0} (t t' : Tree A) (go go' : End A → Tree B) → Cut t t' → ((e : End A) (m : ℕ) → left_of e ≤ m → Cut (go e) (go' (with_left e m))) → Cut (on_end t go) (on_end t' go')
unfolding on_end
end_cut (ends e) t' go go' (m, le, same) h = subst (λ t. Cut (go e) (on_end t go')) (sym same) (h e m le)
end_cut spent t' go go' c h = tt
end_cut broken t' go go' c h = ap (λ t. on_end t go') c
end_cut (asks q k) t' go go' (j, same, c) h = ((λ x. on_end (j x) go'), ap (λ t. on_end t go') same, λ x. end_cut (k x) (j x) go go' (c x) h)

pub then_cut : {A B : Type 0} (t t' : Tree A) (go go' : A → ℕ → Own → Tree B) → Cut t t' → ((a : A) (n m : ℕ) (o : Own) → n ≤ m → Cut (go a n o) (go' a m o)) → Cut (and_then t go) (and_then t' go')
then_cut {A = A} {B = B} t t' go go' c h = end_cut t t' (next go) (next go') c each
  where
    each : (e : End A) (m : ℕ) → left_of e ≤ m → Cut (next go e) (next go' (with_left e m))
    each (goes a n o) m le = h a n m o le
    each (raises f n o) m le = (m, le, refl)
    each (leaves v n o) m le = (m, le, refl)

-- what is done with any units
abbrev pub CutDoes : {A : Type 0} → (ℕ → Own → Tree A) → (ℕ → Own → Tree A) → Type 0
CutDoes f g = (n m : ℕ) (o : Own) → n ≤ m → Cut (f n o) (g m o)

-- ---- operators and asks

pub if_cut : {A : Type 0} (b : Bool) (x y x' y' : Tree A) → Cut x x' → Cut y y' → Cut (if b then x else y) (if b then x' else y')
if_cut true x y x' y' h k = h
if_cut false x y x' y' h k = k

module _ (n m : ℕ) (o : Own) (le : n ≤ m) where
  pub pure_cut : (x : Pure) → Cut (purely n o x) (purely m o x)
  pure_cut (fine a) = (m, le, refl)
  pure_cut (faults f) = (m, le, refl)
  pure_cut wrong = refl

  pub reply_cut : (gains : Value → Own → Own) (x : Answer) → Cut (value_reply gains n o x) (value_reply gains m o x)
  reply_cut gains Done = refl
  reply_cut gains Entered = refl
  reply_cut gains x = (m, le, refl)

  pub gains_cut : (q : Asked) (gains : Value → Own → Own) → Cut (asks q (λ x. value_reply gains n o x)) (asks q (λ x. value_reply gains m o x))
  gains_cut q gains = ((λ x. value_reply gains m o x), refl, λ x. reply_cut gains x)

  pub value_cut : (q : Asked) → Cut (ask_value q n o) (ask_value q m o)
  value_cut q = gains_cut q nothing_gained

  pub done_cut : {A : Type 0} (a : Ask) (it : A) → Cut (ask_done a it n o) (ask_done a it m o)
  done_cut {A = A} a it = ((λ x. done_reply it m o x), refl, each)
    where
      each : (x : Answer) → Cut (done_reply it n o x) (done_reply it m o x)
      each Done = (m, le, refl)
      each (Refused d) = (m, le, refl)
      each (Failed f) = (m, le, refl)
      each Entered = refl
      each (Val v) = refl

-- ---- operands

module _ {A : Type 0} (n m : ℕ) (o : Own) (le : n ≤ m) where
  pub unless_cut : (d : Option Denial) (t t' : Tree A) → Cut t t' → Cut (unless_denied d n o t) (unless_denied d m o t')
  unless_cut None t t' h = h
  unless_cut (Some d) t t' h = then_cut (ask_unit (ask.Barred d) n o) (ask_unit (ask.Barred d) m o) (λ _ n o. fails Denied n o) (λ _ n o. fails Denied n o) (done_cut n m o le (ask.Barred d) tt) (λ a n m o le. (m, le, refl))

  pub object_cut : (v : Value) (go go' : Name → Tree A) → ((x : Name) → Cut (go x) (go' x)) → Cut (on_object v n o go) (on_object v m o go')
  object_cut (Obj x) go go' h = h x
  object_cut Nothing go go' h = (m, le, refl)
  object_cut v go go' h = refl

  pub array_cut : (v : Value) (go go' : Name → ℕ → Tree A) → ((x : Name) (len : ℕ) → Cut (go x len) (go' x len)) → Cut (on_array v n o go) (on_array v m o go')
  array_cut (Arr x len) go go' h = h x len
  array_cut Nothing go go' h = (m, le, refl)
  array_cut v go go' h = refl

  pub thing_cut : (v : Value) (go go' : Value → Tree A) → ((x : Value) → Cut (go x) (go' x)) → Cut (on_thing v n o go) (on_thing v m o go')
  thing_cut (Obj x) go go' h = h (Obj x)
  thing_cut (Arr x len) go go' h = h (Arr x len)
  thing_cut Nothing go go' h = (m, le, refl)
  thing_cut v go go' h = refl

  pub caps_cut : (v : Value) (go go' : Caps → Tree A) → ((k : Caps) → Cut (go k) (go' k)) → Cut (on_caps v n o go) (on_caps v m o go')
  caps_cut (CapV p q) go go' h = h (record { plus = p; minus = q })
  caps_cut Nothing go go' h = (m, le, refl)
  caps_cut v go go' h = refl

  pub region_cut : (v c : Value) (go go' : Label → Caps → Tree A) → ((l : Label) (k : Caps) → Cut (go l k) (go' l k)) → Cut (on_region v c n o go) (on_region v c m o go')
  region_cut (Lab l) c go go' h = caps_cut c (λ k. go l k) (λ k. go' l k) (λ k. h l k)
  region_cut Nothing (CapV p q) go go' h = (m, le, refl)
  region_cut Nothing Nothing go go' h = (m, le, refl)
  region_cut v c go go' h = refl

  pub within_cut : (z : ℤ) (len : ℕ) (go go' : ℕ → Tree A) → ((i : ℕ) → Cut (go i) (go' i)) → Cut (within z len n o go) (within z len m o go')
  within_cut (pos i) len go go' h = if_cut (nat_lt i len) (go i) (fails Index n o) (go' i) (fails Index m o) (h i) (m, le, refl)
  within_cut (negsuc i) len go go' h = (m, le, refl)

module _ {A : Type 0} where
  pub truth_cut : (v : Value) (a b a' b' : Tree A) → Cut a a' → Cut b b' → Cut (on_truth v a b) (on_truth v a' b')
  truth_cut (Truth true) a b a' b' h k = h
  truth_cut (Truth false) a b a' b' h k = k
  truth_cut v a b a' b' h k = refl

  pub number_cut : (v : Value) (go go' : ℤ → Tree A) → ((z : ℤ) → Cut (go z) (go' z)) → Cut (on_number v go) (on_number v go')
  number_cut (Int z) go go' h = h z
  number_cut v go go' h = refl

  pub spend_cut : (n m : ℕ) (go go' : ℕ → Tree A) → n ≤ m → ((i j : ℕ) → i ≤ j → Cut (go i) (go' j)) → Cut (spend n go) (spend m go')
  spend_cut zero m go go' le h = tt
  spend_cut (suc n) zero go go' le h = absurd (omega (arith, le))
  spend_cut (suc n) (suc m) go go' le h = h n m (omega (arith, le))
