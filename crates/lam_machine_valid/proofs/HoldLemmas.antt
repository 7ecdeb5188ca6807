-- How often a thread holds a monitor, what takings and givings back make of it, and that it lists no more than it holds.
use Rattle.std.proofs.Common.{◌≡◌, ℕ, ◌+◌, ◌-◌, ◌<◌, ◌≤◌, ◌⊎◌, inl, inr, Bool, true, false, cond, List, [], ◌∷◌, Option, Some, None, refl, sym, ap, subst, ◌∙◌, arith}
use Rattle.std.specs.Prelude.{nat_eq, nat_lt, ◌||◌, if◌then◌else◌}
use Rattle.std.proofs.lemmas.Bool.Decides.{nat_tests}
use Rattle.std.specs.List.{AllByRecursion}
use Rattle.std.specs.Ordering.{eq_by_cmp}
use Rattle.std.specs.Cmp.{eq_by_cmp_equiv, Equal-is}
use Rattle.std.specs.FinMap.{get, get-insert, get-remove}
use Rattle.lam_value.specs.declared.names.Name.{Name}
use Rattle.lam_value.specs.Names.{name_cmp}
use Rattle.lam_value.specs.declared.values.Value.TheVariants.{Obj}
use Rattle.lam_value.proofs.Keys.{name_total, name_exact}
use Rattle.monitor_core.specs.declared.Holder.{Holder}
use Rattle.monitor_core.specs.Held.{Held, held_by, is_free_of, is_free, count_of, takings, once_more, entered, one_less, left, dropped, listings}
use Rattle.thread_steps.specs.Threads.{Context}
use Rattle.thread_steps.specs.Ops.{is_held}
use Rattle.thread_steps.specs.Next.{without}
use Rattle.lam_machine_laws.specs.Worlds.{World}
use Rattle.lam_machine_laws.specs.Serves.{Effect, takes_monitor, gives_back, drops}
use Rattle.lam_machine_laws.specs.Valid.{IsKnown, AreKnown, Lives, IsListed, ContextLives, all_listings}
use Rattle.lam_machine_valid.specs.Living.{InsideLives}

same_name : (q r : Name) → eq_by_cmp name_cmp q r ≡ true → q ≡ r
same_name q r e = name_exact q r ((Equal-is (name_cmp q r)).0 e)

itself : (q : Name) → eq_by_cmp name_cmp q q ≡ true
itself q = (eq_by_cmp_equiv name_total).refl q

same_number : (a b : ℕ) → nat_eq a b ≡ true → a ≡ b
same_number a b e = grind (arith, nat_tests, e)

own_number : (t : ℕ) → nat_eq t t ≡ true
own_number t = grind (arith, nat_tests)

other_number : (a t j : ℕ) → nat_eq a t ≡ true → (j ≡ t → ⊥) → nat_eq a j ≡ false
other_number a t j e apart = by (nat_eq a j) refl
  where
    by : (b : Bool) → nat_eq a j ≡ b → b ≡ false
    by true f = absurd (apart (sym (same_number a j f) ∙ same_number a t e))
    by false f = refl

-- ---- one monitor

-- how often a thread holds it
abbrev pub mine : Option Holder → ℕ → ℕ
mine None t = 0
mine (Some h) t = if nat_eq h.thread t then h.count else 0

mine_at_most : (o : Option Holder) (t : ℕ) → mine o t ≤ count_of o
mine_at_most None t = omega arith
mine_at_most (Some h) t = by (nat_eq h.thread t)
  where
    by : (b : Bool) → (if b then h.count else 0) ≤ h.count
    by true = omega arith
    by false = omega arith

mine_more : (o : Option Holder) (t : ℕ) → mine (Some (once_more o t)) t ≡ count_of o + 1
mine_more o t = ap (λ b. if b then count_of o + 1 else 0) (own_number t)

mine_less : (o : Option Holder) (t : ℕ) → mine (one_less o t) t ≡ mine o t - 1
mine_less None t = omega arith
mine_less (Some h) t = by (nat_eq h.thread t) refl (nat_lt 1 h.count) refl
  where
    by : (a : Bool) → nat_eq h.thread t ≡ a → (b : Bool) → nat_lt 1 h.count ≡ b → mine (if a then (if b then Some (record h { count = h.count - 1 }) else None) else Some h) t ≡ (if a then h.count else 0) - 1
    by true e true more = ap (λ a. if a then h.count - 1 else 0) e
    by true e false more = grind (arith, nat_tests)
    by false e b more = ap (λ a. if a then h.count else 0) e ∙ (omega arith)

-- the other threads hold it as often as before
less_other : (o : Option Holder) (t j : ℕ) → (j ≡ t → ⊥) → mine (one_less o t) j ≡ mine o j
less_other None t j apart = refl
less_other (Some h) t j apart = by (nat_eq h.thread t) refl (nat_lt 1 h.count)
  where
    by : (a : Bool) → nat_eq h.thread t ≡ a → (b : Bool) → mine (if a then (if b then Some (record h { count = h.count - 1 }) else None) else Some h) j ≡ mine (Some h) j
    by true e true = let f = other_number h.thread t j e apart in ap (λ a. if a then h.count - 1 else 0) f ∙ sym (ap (λ a. if a then h.count else 0) f)
    by true e false = let f = other_number h.thread t j e apart in sym (ap (λ a. if a then h.count else 0) f)
    by false e b = refl

more_other : (o : Option Holder) (t j : ℕ) → (j ≡ t → ⊥) → is_free_of o t ≡ true → mine (Some (once_more o t)) j ≡ mine o j
more_other None t j apart free = ap (λ b. if b then 1 else 0) (other_number t t j (own_number t) apart)
more_other (Some h) t j apart free =
    ap (λ b. if b then h.count + 1 else 0) (other_number t t j (own_number t) apart) ∙ sym (ap (λ b. if b then h.count else 0) (other_number h.thread t j free apart))

-- ---- all monitors

pub held_at : (o : Option Holder) (m : Held) (r q : Name) → get (held_by o m r) q ≡ cond (eq_by_cmp name_cmp q r) o (get m q)
held_at None m r q = get-remove name_total m r q
held_at (Some h) m r q = get-insert name_total m r h q

abbrev pub hold : Held → ℕ → Name → ℕ
hold m t q = mine (get m q) t

abbrev pub as_one : Bool → ℕ
as_one b = cond b 1 0

pub hold_entered : (m : Held) (r : Name) (t : ℕ) (q : Name) → hold m t q + as_one (eq_by_cmp name_cmp q r) ≤ hold (entered m r t) t q
hold_entered m r t q = subst (λ o. hold m t q + as_one (eq_by_cmp name_cmp q r) ≤ mine o t) (sym (get-insert name_total m r (once_more (get m r) t) q)) (by (eq_by_cmp name_cmp q r) refl)
  where
    by : (b : Bool) → eq_by_cmp name_cmp q r ≡ b → hold m t q + as_one b ≤ mine (cond b (Some (once_more (get m r) t)) (get m q)) t
    by true e =
        let same : hold m t q ≡ hold m t r = ap (λ n. hold m t n) (same_name q r e) in
        let most = mine_at_most (get m r) t in
        let more = mine_more (get m r) t in
        omega arith
    by false e = omega arith

pub hold_left : (m : Held) (r : Name) (t : ℕ) (q : Name) → hold m t q ≤ hold (left m r t) t q + as_one (eq_by_cmp name_cmp q r)
hold_left m r t q = subst (λ o. hold m t q ≤ mine o t + as_one (eq_by_cmp name_cmp q r)) (sym (held_at (one_less (get m r) t) m r q)) (by (eq_by_cmp name_cmp q r) refl)
  where
    by : (b : Bool) → eq_by_cmp name_cmp q r ≡ b → hold m t q ≤ mine (cond b (one_less (get m r) t) (get m q)) t + as_one b
    by true e =
        let same : hold m t q ≡ hold m t r = ap (λ n. hold m t n) (same_name q r e) in
        let less = mine_less (get m r) t in
        omega arith
    by false e = omega arith

pub hold_dropped : (m : Held) (rs : List Name) (t : ℕ) (q : Name) → hold m t q ≤ hold (dropped m rs t) t q + listings q rs
hold_dropped m [] t q = omega arith
hold_dropped m (r ∷ rs) t q =
    let one = hold_left m r t q in
    let more = hold_dropped (left m r t) rs t q in
    omega arith

entered_other : (m : Held) (r : Name) (t j : ℕ) → (j ≡ t → ⊥) → is_free m r t ≡ true → (q : Name) → hold (entered m r t) j q ≡ hold m j q
entered_other m r t j apart free q = ap (λ o. mine o j) (get-insert name_total m r (once_more (get m r) t) q) ∙ by (eq_by_cmp name_cmp q r) refl
  where
    by : (b : Bool) → eq_by_cmp name_cmp q r ≡ b → mine (cond b (Some (once_more (get m r) t)) (get m q)) j ≡ hold m j q
    by true e = more_other (get m r) t j apart free ∙ ap (λ n. hold m j n) (sym (same_name q r e))
    by false e = refl

left_other : (m : Held) (r : Name) (t j : ℕ) → (j ≡ t → ⊥) → (q : Name) → hold (left m r t) j q ≡ hold m j q
left_other m r t j apart q = ap (λ o. mine o j) (held_at (one_less (get m r) t) m r q) ∙ by (eq_by_cmp name_cmp q r) refl
  where
    by : (b : Bool) → eq_by_cmp name_cmp q r ≡ b → mine (cond b (one_less (get m r) t) (get m q)) j ≡ hold m j q
    by true e = less_other (get m r) t j apart ∙ ap (λ n. hold m j n) (sym (same_name q r e))
    by false e = refl

dropped_other : (m : Held) (rs : List Name) (t j : ℕ) → (j ≡ t → ⊥) → (q : Name) → hold (dropped m rs t) j q ≡ hold m j q
dropped_other m [] t j apart q = refl
dropped_other m (r ∷ rs) t j apart q = dropped_other (left m r t) rs t j apart q ∙ left_other m r t j apart q

-- ---- what an effect makes of them

abbrev pub touched : Held → ℕ → Effect → Held
touched m t (takes_monitor n) = entered m n t
touched m t (gives_back n) = left m n t
touched m t (drops ns) = dropped m ns t
touched m t e = m

-- a monitor that is taken was free
abbrev pub IsFree : Held → ℕ → Effect → Type 0
IsFree m t (takes_monitor n) = is_free m n t ≡ true
IsFree m t e = Unit {0}

pub touched_other : (m : Held) (t j : ℕ) → (j ≡ t → ⊥) → (e : Effect) → IsFree m t e → (q : Name) → hold (touched m t e) j q ≡ hold m j q
touched_other m t j apart (takes_monitor n) free q = entered_other m n t j apart free q
touched_other m t j apart (gives_back n) free q = left_other m n t j apart q
touched_other m t j apart (drops ns) free q = dropped_other m ns t j apart q
touched_other m t j apart e free q = refl

-- ---- listings

pub listed_less : (r q : Name) (ns : List Name) → is_held r ns ≡ true → listings q (without r ns) + as_one (eq_by_cmp name_cmp q r) ≤ listings q ns
listed_less r q [] e = absurd cc
listed_less r q (n ∷ ns) e = by (eq_by_cmp name_cmp r n) refl e (λ h. listed_less r q ns h)
  where
    by : (b : Bool) → eq_by_cmp name_cmp r n ≡ b → (b || is_held r ns) ≡ true → (is_held r ns ≡ true → listings q (without r ns) + as_one (eq_by_cmp name_cmp q r) ≤ listings q ns) → listings q (cond b ns (n ∷ without r ns)) + as_one (eq_by_cmp name_cmp q r) ≤ as_one (eq_by_cmp name_cmp q n) + listings q ns
    by true f h more = let same : as_one (eq_by_cmp name_cmp q r) ≡ as_one (eq_by_cmp name_cmp q n) = ap (λ k. as_one (eq_by_cmp name_cmp q k)) (same_name r n f) in omega arith
    by false f h more = let less = more h in omega arith

-- ---- a context without its monitors' holders

abbrev pub IsOwnThing : World → Context → Name → Type 0
IsOwnThing w c n = Lives w (Obj n) × (n.own ≡ c.label)

pub record IsPlaced (w : World) (c : Context) : Type 0 where
  pub label : IsKnown w c.label
  pub caps : AreKnown w c.caps
  pub inside : InsideLives w c.inside
  pub held : AllByRecursion (IsOwnThing w c) c.held

-- a thread lists no monitor more often than it holds it
abbrev pub HoldsAll : Held → ℕ → List Context → Type 0
HoldsAll m t cs = (n : Name) → all_listings n cs ≤ hold m t n

module _ (w : World) (t : ℕ) where
  own_things : (c : Context) (ns : List Name) → AllByRecursion (IsListed w t c) ns → AllByRecursion (IsOwnThing w c) ns
  own_things c [] h = tt
  own_things c (n ∷ ns) h = (((h.0).lives, (h.0).own), own_things c ns h.1)

  pub placed : (cs : List Context) → AllByRecursion (ContextLives w t) cs → AllByRecursion (IsPlaced w) cs
  placed [] h = tt
  placed (c ∷ cs) h = (
    record {
      label = (h.0).label;
      caps = (h.0).caps;
      inside = record { frame = (h.0).frame; callers = (h.0).callers };
      held = own_things c c.held (h.0).held;
    },
    placed cs h.1,
  )

  -- what is listed is held, as often as the monitor is
  abbrev AllMine : Name → Type 0
  AllMine n = hold w.monitors t n ≡ takings w.monitors n

  mine_by : (n : Name) (count : ℕ) → get w.monitors n ≡ Some (record { thread = t; count = count }) → AllMine n
  mine_by n count e = subst (λ o. mine o t ≡ count_of o) (sym e) (ap (λ b. if b then count else 0) (own_number t))

  in_list : (c : Context) (n : Name) (ns : List Name) → AllByRecursion (IsListed w t c) ns → (listings n ns ≡ 0) ⊎ AllMine n
  in_list c n [] h = inl refl
  in_list c n (m ∷ ns) h = by (eq_by_cmp name_cmp n m) refl (in_list c n ns h.1)
    where
      by : (b : Bool) → eq_by_cmp name_cmp n m ≡ b → (listings n ns ≡ 0) ⊎ AllMine n → (as_one b + listings n ns ≡ 0) ⊎ AllMine n
      by true e r = inr (subst AllMine (sym (same_name n m e)) (mine_by m (h.0).holder.0 (h.0).holder.1))
      by false e (inl z) = inl (omega arith)
      by false e (inr z) = inr z

  in_lists : (n : Name) (cs : List Context) → AllByRecursion (ContextLives w t) cs → (all_listings n cs ≡ 0) ⊎ AllMine n
  in_lists n [] h = inl refl
  in_lists n (c ∷ cs) h = by (in_list c n c.held (h.0).held) (in_lists n cs h.1)
    where
      by : (listings n c.held ≡ 0) ⊎ AllMine n → (all_listings n cs ≡ 0) ⊎ AllMine n → (listings n c.held + all_listings n cs ≡ 0) ⊎ AllMine n
      by (inr z) r = inr z
      by (inl z) (inr y) = inr y
      by (inl z) (inl y) = inl (omega arith)

  pub holds_all : (cs : List Context) → AllByRecursion (ContextLives w t) cs → ((n : Name) → all_listings n cs ≤ takings w.monitors n) → HoldsAll w.monitors t cs
  holds_all cs h most n = by (in_lists n cs h) (most n)
    where
      by : (all_listings n cs ≡ 0) ⊎ AllMine n → all_listings n cs ≤ takings w.monitors n → all_listings n cs ≤ hold w.monitors t n
      by (inl z) l = omega arith
      by (inr z) l = omega arith

  pub takings_all : (cs : List Context) → HoldsAll w.monitors t cs → (n : Name) → all_listings n cs ≤ takings w.monitors n
  takings_all cs h n = let l = h n in let most = mine_at_most (get w.monitors n) t in omega arith

  -- and back
  pub the_holder : (o : Option Holder) → 0 < mine o t → (count : ℕ) × (o ≡ Some (record { thread = t; count = count }))
  the_holder None l = absurd (omega arith)
  the_holder (Some h) l = by (nat_eq h.thread t) refl l
    where
      by : (b : Bool) → nat_eq h.thread t ≡ b → 0 < (if b then h.count else 0) → (count : ℕ) × (Some h ≡ Some (record { thread = t; count = count }))
      by true e l = (h.count, ap (λ (k : ℕ). Some (record { thread = k; count = h.count })) (same_number h.thread t e))
      by false e l = absurd (omega arith)

  listed : (c : Context) (ns : List Name) → AllByRecursion (IsOwnThing w c) ns → ((n : Name) → listings n ns ≤ hold w.monitors t n) → AllByRecursion (IsListed w t c) ns
  listed c [] h most = tt
  listed c (m ∷ ns) h most =
      let here : as_one (eq_by_cmp name_cmp m m) ≡ 1 = ap as_one (itself m) in
      let l = most m in
      let some : 0 < hold w.monitors t m = omega arith in
      (record { lives = h.0.0; own = h.0.1; holder = the_holder (get w.monitors m) some }, listed c ns h.1 (λ n. let k = most n in omega arith))

  pub lived : (cs : List Context) → AllByRecursion (IsPlaced w) cs → HoldsAll w.monitors t cs → AllByRecursion (ContextLives w t) cs
  lived [] h most = tt
  lived (c ∷ cs) h most = (
    record {
      label = (h.0).label;
      caps = (h.0).caps;
      frame = (h.0).inside.frame;
      callers = (h.0).inside.callers;
      held = listed c c.held (h.0).held (λ n. let l = most n in omega arith);
    },
    lived cs h.1 (λ n. let l = most n in omega arith),
  )
