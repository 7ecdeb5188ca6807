-- Trees that meet no operand of another kind, and what holds where they end.
use Rattle.std.proofs.Common.{◌≡◌, ◌<◌, ℕ, zero, suc, ℤ, pos, negsuc, Bool, true, false, Option, Some, None, refl, subst, arith}
use Rattle.std.proofs.lemmas.Bool.Decides.{nat_tests}
use Rattle.std.specs.Prelude.{if◌then◌else◌, nat_lt}
use Rattle.flow_labels.specs.declared.Label.{Label}
use Rattle.flow_labels.specs.declared.Denied.{Denied as Denial}
use Rattle.capabilities.specs.declared.Caps.{Caps}
use Rattle.lam_value.specs.declared.names.Name.{Name}
use Rattle.lam_value.specs.declared.values.Value.{Value}
use Rattle.lam_value.specs.declared.values.Value.TheVariants.{Bool as Truth, Nothing, Obj, Arr}
use Rattle.lam_builtins.specs.Types.{int, bool, label, caps, object, array}
use Rattle.lam_asks.specs.declared.fault.Fault.{Fault}
use Rattle.lam_asks.specs.declared.fault.Fault.TheVariants.{Denied, Null, Index}
use Rattle.lam_asks.specs.declared.answer.Answer.{Answer}
use Rattle.lam_asks.specs.declared.answer.Answer.TheVariants.{Done, Entered, Val, Refused, Failed}
use Rattle.lam_asks.specs.declared.ask.Ask.{Ask}
use Rattle.lam_asks.specs.declared.ask.Ask.TheVariants as ask
use Rattle.lam_asks.specs.Suits as sorts
use Rattle.lam_asks.specs.Suits.{Sort, numbers, is_done, is_value, Want, always, want_of, fits}
use Rattle.lam_meaning.specs.Operators.{Pure, fine, faults, wrong}
use Rattle.lam_resolve_tree.specs.Tree.{ResolvedType, ResolvedTree}
use Rattle.lam_resolve_tree.specs.Typing.{is_object}
use Rattle.lam_meaning.specs.Trees.{Own, Asked, asked, End, goes, raises, leaves, Tree, ends, spent, broken, asks, on_end, next, and_then, fails, spend, purely, value_reply, done_reply, ask_done, unless_denied, on_object, on_array, on_thing, on_truth, on_caps, on_region}
use Rattle.lam_meaning.specs.Means.{sort_of, within, on_number}
use Rattle.lam_meaning_typed.proofs.Sorts.{Sorts, AsksFor, IsWell}
use Rattle.lam_meaning_typed.proofs.Places.{by_number, by_truth, by_object, by_array, by_caps, by_label, by_thing}
use Rattle.lam_meaning_typed.proofs.Rows.{PureIs}

-- Q of what it goes on with, R of a fault, L of what is returned
abbrev pub EndBy : {A : Type 0} → (A → Own → Type 0) → (Own → Type 0) → (Value → Type 0) → End A → Type 0
EndBy Q R L (goes a n o) = Q a o
EndBy Q R L (raises f n o) = R o
EndBy Q R L (leaves v n o) = L v

module _ {r : ResolvedTree} (S : Sorts r) where
  -- the one induction over trees
  pub end_tree : {A B : Type 0} (E : S.Known → End A → Type 0) (F : S.Known → End B → Type 0) (G : S.Known) (t : Tree A) (go : End A → Tree B) → IsWell S E G t → ((H : S.Known) → S.Grows G H → (e : End A) → E H e → IsWell S F H (go e)) → IsWell S F G (on_end t go)
  unfolding on_end
  end_tree E F G (ends e) go h on = on G (S.stays G) e h
  end_tree E F G spent go h on = tt
  end_tree E F G broken go h on = absurd h
  end_tree E F G (asks q k) go h on = (h.0, h.1, λ H x more a. end_tree E F H (k x) go (h.2 H x more a) (λ J later e. on J (S.further G H J more later) e))

  -- ends that say less
  pub weaker : {A : Type 0} (E F : S.Known → End A → Type 0) (G : S.Known) (t : Tree A) → ((H : S.Known) (e : End A) → E H e → F H e) → IsWell S E G t → IsWell S F G t
  weaker E F G (ends e) w h = w G e h
  weaker E F G spent w h = tt
  weaker E F G broken w h = absurd h
  weaker E F G (asks q k) w h = (h.0, h.1, λ H x more a. weaker E F H (k x) w (h.2 H x more a))

  -- one piece and then another
  pub then_tree : {A B : Type 0} (E : S.Known → End A → Type 0) (F : S.Known → End B → Type 0) (G : S.Known) (t : Tree A) (go : A → ℕ → Own → Tree B) → IsWell S E G t → ((H : S.Known) → S.Grows G H → (f : Fault) (n : ℕ) (o : Own) → E H (raises f n o) → F H (raises f n o)) → ((H : S.Known) → S.Grows G H → (v : Value) (n : ℕ) (o : Own) → E H (leaves v n o) → F H (leaves v n o)) → ((H : S.Known) → S.Grows G H → (a : A) (n : ℕ) (o : Own) → E H (goes a n o) → IsWell S F H (go a n o)) → IsWell S F G (and_then t go)
  then_tree {A = A} {B = B} E F G t go h rs ls on = end_tree E F G t (next go) h each
    where
      each : (H : S.Known) → S.Grows G H → (e : End A) → E H e → IsWell S F H (next go e)
      each H more (goes a n o) k = on H more a n o k
      each H more (raises f n o) k = rs H more f n o k
      each H more (leaves v n o) k = ls H more v n o k

  -- ---- asks

  reply_tree : (E : S.Known → End Value → Type 0) (H : S.Known) (w : Want) (k : Sort) (P : Value → Type 0) (gains : Value → Own → Own) (n : ℕ) (o : Own) → w.gives ≡ is_value k → ((f : Fault) → E H (raises f n o)) → ((v : Value) → P v → E H (goes v n (gains v o))) → (x : Answer) → fits w x ≡ true → ((v : Value) → x ≡ Val v → P v) → IsWell S E H (value_reply gains n o x)
  reply_tree E H w k P gains n o e rs q (Val v) s a = q v (a v refl)
  reply_tree E H w k P gains n o e rs q (Refused d) s a = rs Denied
  reply_tree E H w k P gains n o e rs q (Failed f) s a = rs f
  reply_tree E H w k P gains n o e rs q Done s a = absurd (let z : false ≡ true = subst (λ g. sorts.gives g Done ≡ true) e s in cc)
  reply_tree E H w k P gains n o e rs q Entered s a = absurd (let z : false ≡ true = subst (λ g. sorts.gives g Entered ≡ true) e s in cc)

  pub value_tree : (E : S.Known → End Value → Type 0) (G : S.Known) (q : Asked) (t : ResolvedType) (gains : Value → Own → Own) (n : ℕ) (o : Own) → AsksFor S G q t → ((H : S.Known) → S.Grows G H → (f : Fault) → E H (raises f n o)) → ((H : S.Known) → S.Grows G H → (v : Value) → S.Is H t v → E H (goes v n (gains v o))) → IsWell S E G (asks q (λ x. value_reply gains n o x))
  value_tree E G q t gains n o g rs h =
      (g.wanted, g.typed, λ H x more a. reply_tree E H q.want (sort_of t) (S.Is H t) gains n o g.sort (rs H more) (h H more) x (S.suits H g.wanted q x a) (λ v e. g.given H v (subst (λ y. S.IsAnswer H g.wanted q y) e a)))

  pub done_tree : {A : Type 0} (E : S.Known → End A → Type 0) (G : S.Known) (a : Ask) (it : A) (n : ℕ) (o : Own) → S.IsAsk G int (asked numbers a) → (want_of numbers a).gives ≡ is_done → ((H : S.Known) → S.Grows G H → (f : Fault) → E H (raises f n o)) → ((H : S.Known) → S.Grows G H → E H (goes it n o)) → IsWell S E G (ask_done a it n o)
  done_tree E G a it n o typed e rs h = (int, typed, λ H x more y. reply H more x (S.suits H int (asked numbers a) x y))
    where
      reply : (H : S.Known) → S.Grows G H → (x : Answer) → fits (want_of numbers a) x ≡ true → IsWell S E H (done_reply it n o x)
      reply H more Done s = h H more
      reply H more (Refused d) s = rs H more Denied
      reply H more (Failed f) s = rs H more f
      reply H more (Val v) s = absurd (let z : false ≡ true = subst (λ g. sorts.gives g (Val v) ≡ true) e s in cc)
      reply H more Entered s = absurd (let z : false ≡ true = subst (λ g. sorts.gives g Entered ≡ true) e s in cc)

  -- one that is never refused and never fails
  pub always_tree : {A : Type 0} (E : S.Known → End A → Type 0) (G : S.Known) (a : Ask) (it : A) (n : ℕ) (o : Own) → S.IsAsk G int (asked numbers a) → want_of numbers a ≡ always is_done → ((H : S.Known) → S.Grows G H → E H (goes it n o)) → IsWell S E G (ask_done a it n o)
  always_tree E G a it n o typed e h = (int, typed, λ H x more y. reply H more x (S.suits H int (asked numbers a) x y))
    where
      reply : (H : S.Known) → S.Grows G H → (x : Answer) → fits (want_of numbers a) x ≡ true → IsWell S E H (done_reply it n o x)
      reply H more Done s = h H more
      reply H more (Refused d) s = absurd (let z : false ≡ true = subst (λ w. fits w (Refused d) ≡ true) e s in cc)
      reply H more (Failed f) s = absurd (let z : false ≡ true = subst (λ w. fits w (Failed f) ≡ true) e s in cc)
      reply H more (Val v) s = absurd (let z : false ≡ true = subst (λ w. fits w (Val v) ≡ true) e s in cc)
      reply H more Entered s = absurd (let z : false ≡ true = subst (λ w. fits w Entered ≡ true) e s in cc)

  -- ---- operands

  module _ {A : Type 0} (E : S.Known → End A → Type 0) (G : S.Known) where
    abbrev Told : ℕ → Own → S.Known → End (Unit {0}) → Type 0
    Told n o H (goes a m p) = E H (raises Denied m p)
    Told n o H (raises f m p) = ⊥
    Told n o H (leaves v m p) = ⊥

    pub unless_tree : (d : Option Denial) (n : ℕ) (o : Own) (t : Tree A) → ((H : S.Known) → S.Grows G H → E H (raises Denied n o)) → IsWell S E G t → IsWell S E G (unless_denied d n o t)
    unless_tree None n o t rs h = h
    unless_tree (Some d) n o t rs h =
        then_tree (Told n o) E G _ (λ _ n o. fails Denied n o) (always_tree (Told n o) G (ask.Barred d) tt n o (S.simple G numbers (ask.Barred d) refl (λ u. refl)) refl rs) (λ H more f n o k. absurd k) (λ H more v n o k. absurd k) (λ H more a n o k. k)

    pub object_tree : (c : ℕ) (v : Value) (n : ℕ) (o : Own) (go : Name → Tree A) → S.Is G (object c) v → E G (raises Null n o) → ((x : Name) → S.Is G (object c) (Obj x) → IsWell S E G (go x)) → IsWell S E G (on_object v n o go)
    object_tree c v n o go h rs on = by_object S G c (λ v. IsWell S E G (on_object v n o go)) v h rs on

    pub array_tree : (t : ResolvedType) (v : Value) (n : ℕ) (o : Own) (go : Name → ℕ → Tree A) → S.Is G (array t) v → E G (raises Null n o) → ((x : Name) (len : ℕ) → S.Is G (array t) (Arr x len) → IsWell S E G (go x len)) → IsWell S E G (on_array v n o go)
    array_tree t v n o go h rs on = by_array S G t (λ v. IsWell S E G (on_array v n o go)) v h rs on

    pub thing_tree : (t : ResolvedType) (v : Value) (n : ℕ) (o : Own) (go : Value → Tree A) → is_object t ≡ true → S.Is G t v → E G (raises Null n o) → ((x : Value) → IsWell S E G (go x)) → IsWell S E G (on_thing v n o go)
    thing_tree t v n o go is h rs on = by_thing S G (λ v. IsWell S E G (on_thing v n o go)) t v is h rs (λ x. on (Obj x)) (λ x len. on (Arr x len))

    pub truth_tree : (v : Value) (a b : Tree A) → S.Is G bool v → IsWell S E G a → IsWell S E G b → IsWell S E G (on_truth v a b)
    truth_tree v a b h x y = by_truth S G (λ v. IsWell S E G (on_truth v a b)) v h each
      where
        each : (t : Bool) → IsWell S E G (on_truth (Truth t) a b)
        each true = x
        each false = y

    pub number_tree : (v : Value) (go : ℤ → Tree A) → S.Is G int v → ((z : ℤ) → IsWell S E G (go z)) → IsWell S E G (on_number v go)
    number_tree v go h on = by_number S G (λ v. IsWell S E G (on_number v go)) v h on

    pub caps_tree : (v : Value) (n : ℕ) (o : Own) (go : Caps → Tree A) → S.Is G caps v → E G (raises Null n o) → ((k : Caps) → IsWell S E G (go k)) → IsWell S E G (on_caps v n o go)
    caps_tree v n o go h rs on = by_caps S G (λ v. IsWell S E G (on_caps v n o go)) v h rs (λ p m. on (record { plus = p; minus = m }))

    pub region_tree : (v c : Value) (n : ℕ) (o : Own) (go : Label → Caps → Tree A) → S.Is G label v → S.Is G caps c → E G (raises Null n o) → ((l : Label) (k : Caps) → IsWell S E G (go l k)) → IsWell S E G (on_region v c n o go)
    region_tree v c n o go h k rs on =
        by_label S G (λ v. IsWell S E G (on_region v c n o go)) v h
        (by_caps S G (λ c. IsWell S E G (on_region Nothing c n o go)) c k rs (λ p m. rs))
        (λ l. caps_tree c n o (λ k. go l k) k rs (λ k. on l k))

    pub within_tree : (z : ℤ) (len n : ℕ) (o : Own) (go : ℕ → Tree A) → E G (raises Index n o) → ((i : ℕ) → i < len → IsWell S E G (go i)) → IsWell S E G (within z len n o go)
    within_tree (pos i) len n o go rs on = each (nat_lt i len) refl
      where
        each : (b : Bool) → nat_lt i len ≡ b → IsWell S E G (if b then go i else fails Index n o)
        each true e = on i (grind (arith, nat_tests, e))
        each false e = rs
    within_tree (negsuc i) len n o go rs on = rs

    pub if_tree : (b : Bool) (t u : Tree A) → IsWell S E G t → IsWell S E G u → IsWell S E G (if b then t else u)
    if_tree true t u x y = x
    if_tree false t u x y = y

    pub spend_tree : (n : ℕ) (go : ℕ → Tree A) → ((m : ℕ) → IsWell S E G (go m)) → IsWell S E G (spend n go)
    spend_tree zero go on = tt
    spend_tree (suc n) go on = on n

  pub pure_tree : (Q : S.Known → Value → Type 0) (R : S.Known → Own → Type 0) (L : Value → Type 0) (G : S.Known) (n : ℕ) (o : Own) (x : Pure) → PureIs (Q G) x → R G o → IsWell S (λ H. EndBy (λ v o. Q H v × R H o) (R H) L) G (purely n o x)
  pure_tree Q R L G n o (fine v) h rs = (h, rs)
  pure_tree Q R L G n o (faults f) h rs = rs
  pure_tree Q R L G n o wrong h rs = absurd h
