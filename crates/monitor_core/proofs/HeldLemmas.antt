-- The map of holders against what is seen of it.
use Rattle.std.proofs.Common.{◌≡◌, ◌≤◌, ◌<◌, ◌+◌, ◌-◌, ℕ, Bool, true, false, cond, List, [], ◌∷◌, Option, Some, None, refl, sym, ap, subst, ◌∙◌, arith}
use Rattle.std.specs.Prelude.{IsTrue, nat_eq, nat_lt, if◌then◌else◌}
use Rattle.std.proofs.lemmas.Bool.Decides.{nat_tests}
use Rattle.std.specs.Option.{option_map}
use Rattle.std.specs.Ordering.{eq_by_cmp}
use Rattle.std.specs.Cmp.{eq_by_cmp_equiv, Equal-is}
use Rattle.std.specs.Map.{lookup}
use Rattle.std.specs.FinMap.{get, insert, remove, empty, get-empty, get-insert, get-remove, same_map}
use Rattle.lam_value.specs.declared.names.Name.{Name}
use Rattle.lam_value.specs.Names.{name_cmp}
use Rattle.lam_value.proofs.Keys.{name_eq, name_total, name_exact, name_ties}
use Rattle.lam_value.specs.Alike.{AreAlikeWhere}
use Rattle.lam_value.proofs.SameLemmas.{seen_where, where_seen, seen_same_map, same_map_alike}
use Rattle.lam_value.proofs.Maps.{get_seen, seen_same, seen_insert}
use Rattle.monitor_core.specs.declared.Holder.{Holder}
use Rattle.monitor_core.specs.Held.{Held, held_in, held_by, is_free, is_free_of, count_of, takings, once_more, entered, one_less, left, dropped, listings, lowered, IsSound}

map_same : {X : Type 0} (o : Option X) → option_map (λ (x : X). x) o ≡ o
map_same None = refl
map_same (Some x) = refl

module _ (es : List (Name × Holder)) (m : Held) (seen : held_in es ≡ m) where
  pub holder_seen : (r : Name) → lookup (name_eq r) es ≡ get m r
  holder_seen r = sym (map_same (lookup (name_eq r) es)) ∙ sym (get_seen name_cmp name_eq (λ (h : Holder). h) name_total name_exact name_ties es r) ∙ ap (λ (n : Held). get n r) seen

  pub kept : (fs : List (Name × Holder)) → ((q : Name) → lookup (name_eq q) fs ≡ lookup (name_eq q) es) → held_in fs ≡ m
  kept fs same = seen_same name_cmp name_eq (λ (h : Holder). h) name_total name_exact name_ties es fs same ∙ seen

  pub put : (fs : List (Name × Holder)) (r : Name) (h : Holder) → ((q : Name) → lookup (name_eq q) fs ≡ cond (name_eq r q) (Some h) (lookup (name_eq q) es)) → held_in fs ≡ insert m r h
  put fs r h is = seen_insert name_cmp name_eq (λ (h : Holder). h) name_total name_exact name_ties es fs r h is ∙ ap (λ (n : Held). insert n r h) seen

  taken_away : (fs : List (Name × Holder)) (r : Name) → ((q : Name) → lookup (name_eq q) fs ≡ cond (name_eq r q) None (lookup (name_eq q) es)) → held_in fs ≡ remove m r
  taken_away fs r is =
      same_map name_total name_exact _ _ (λ q.
      get_seen name_cmp name_eq (λ (h : Holder). h) name_total name_exact name_ties fs q ∙ map_same (lookup (name_eq q) fs)
      ∙ is q
      ∙ ap (λ b. cond b None (lookup (name_eq q) es)) (name_ties r q ∙ (eq_by_cmp_equiv name_total).symm r q)
      ∙ ap (cond (eq_by_cmp name_cmp q r) None) (holder_seen q)
      ∙ sym (get-remove name_total m r q))

  pub held_seen : (fs : List (Name × Holder)) (r : Name) (o : Option Holder) → ((q : Name) → lookup (name_eq q) fs ≡ cond (name_eq r q) o (lookup (name_eq q) es)) → held_in fs ≡ held_by o m r
  held_seen fs r None is = taken_away fs r is
  held_seen fs r (Some h) is = put fs r h is

-- ---- what holds of all monitors
put_sound : (m : Held) (r : Name) (h : Holder) → IsSound m → (1 ≤ h.count) × (h.count ≤ 1048576) → IsSound (insert m r h)
put_sound m r h sound here q k e = by (eq_by_cmp name_cmp q r) (sym (get-insert name_total m r h q) ∙ e)
  where
    by : (b : Bool) → cond b (Some h) (get m q) ≡ Some k → (1 ≤ k.count) × (k.count ≤ 1048576)
    by true is = let same : h ≡ k = cc in subst (λ (x : Holder). (1 ≤ x.count) × (x.count ≤ 1048576)) same here
    by false is = sound q k is

remove_sound : (m : Held) (r : Name) → IsSound m → IsSound (remove m r)
remove_sound m r sound q k e = by (eq_by_cmp name_cmp q r) (sym (get-remove name_total m r q) ∙ e)
  where
    by : (b : Bool) → cond b None (get m q) ≡ Some k → (1 ≤ k.count) × (k.count ≤ 1048576)
    by true is = cc
    by false is = sound q k is

pub sound_none : IsSound empty
sound_none r h e = let none = sym (get-empty name_cmp r) ∙ e in cc

pub entered_sound : (m : Held) (r : Name) (t : ℕ) → IsSound m → takings m r < 1048576 → IsSound (entered m r t)
entered_sound m r t sound room = put_sound m r (once_more (get m r) t) sound (omega arith, omega arith)

less_sound : (m : Held) (r : Name) (t : ℕ) → IsSound m → (o : Option Holder) → get m r ≡ o → IsSound (held_by (one_less o t) m r)
less_sound m r t sound None e = remove_sound m r sound
less_sound m r t sound (Some h) e = by (nat_eq h.thread t) (nat_lt 1 h.count) refl
  where
    by : (a b : Bool) → nat_lt 1 h.count ≡ b → IsSound (held_by (if a then (if b then Some (record h { count = h.count - 1 }) else None) else Some h) m r)
    by true true more =
        let bounds = sound r h e in
        let up = bounds.1 in
        put_sound m r (record h { count = h.count - 1 }) sound (grind (arith, nat_tests), omega arith)
    by true false more = remove_sound m r sound
    by false b more = put_sound m r h sound (sound r h e)

pub left_sound : (m : Held) (r : Name) (t : ℕ) → IsSound m → IsSound (left m r t)
left_sound m r t sound = less_sound m r t sound (get m r) refl

-- ---- leaving, and how often a monitor is held
held_at : (o : Option Holder) (m : Held) (r q : Name) → get (held_by o m r) q ≡ cond (eq_by_cmp name_cmp q r) o (get m q)
held_at None m r q = get-remove name_total m r q
held_at (Some h) m r q = get-insert name_total m r h q

abbrev fewer : Option Holder → ℕ → ℕ → ℕ
fewer o t n = if is_free_of o t then count_of o - n else count_of o

fewer_left : (o : Option Holder) (t n : ℕ) → fewer (one_less o t) t n ≡ fewer o t (1 + n)
fewer_left None t n = omega arith
fewer_left (Some h) t n = by (nat_eq h.thread t) refl (nat_lt 1 h.count) refl
  where
    by : (a : Bool) → nat_eq h.thread t ≡ a → (b : Bool) → nat_lt 1 h.count ≡ b
        → fewer (if a then (if b then Some (record h { count = h.count - 1 }) else None) else Some h) t n ≡ (if a then h.count - (1 + n) else h.count)
    by true e true more = ap (λ a. if a then h.count - 1 - n else h.count - 1) e ∙ (omega arith)
    by true e false more = grind (arith, nat_tests)
    by false e b more = ap (λ a. if a then h.count - n else h.count) e

added : (n : ℕ) → n ≡ 0 + n
added n = omega arith

fewer_at : (b : Bool) (o p : Option Holder) (t n : ℕ) → (b ≡ true → o ≡ p) → fewer (cond b (one_less p t) o) t n ≡ fewer o t (cond b 1 0 + n)
fewer_at true o p t n same = ap (λ x. fewer (one_less x t) t n) (sym (same refl)) ∙ fewer_left o t n
fewer_at false o p t n same = ap (fewer o t) (added n)

pub dropped_takings : (m : Held) (rs : List Name) (t : ℕ) (r : Name) → takings (dropped m rs t) r ≡ lowered m r t rs
dropped_takings m [] t r = by (is_free m r t)
  where
    by : (b : Bool) → takings m r ≡ (if b then takings m r - 0 else takings m r)
    by true = omega arith
    by false = refl
dropped_takings m (q ∷ qs) t r =
    dropped_takings (left m q t) qs t r
    ∙ ap (λ o. fewer o t (listings r qs)) (held_at (one_less (get m q) t) m q r)
    ∙ fewer_at (eq_by_cmp name_cmp r q) (get m r) (get m q) t (listings r qs) (λ e. ap (get m) (name_exact r q ((Equal-is (name_cmp r q)).0 e)))

-- ---- two compared
abbrev SameHolders : (Name → Bool) → List (Name × Holder) → List (Name × Holder) → Type 0
SameHolders shown es fs = AreAlikeWhere shown (λ (x y : Holder). x ≡ y) (λ q. lookup (name_eq q) es) (λ q. lookup (name_eq q) fs)

module _ (es fs : List (Name × Holder)) (m k : Held) (one : held_in es ≡ m) (two : held_in fs ≡ k) where
  pub same_monitors : SameHolders (λ _. true) es fs → m ≡ k
  same_monitors alike = sym one ∙ seen_same_map name_cmp name_eq (λ (h : Holder). h) name_total name_exact name_ties es fs alike ∙ two

  pub monitors_same : m ≡ k → SameHolders (λ _. true) es fs
  monitors_same e = same_map_alike name_cmp name_eq (λ (h : Holder). h) name_total name_exact name_ties es fs (one ∙ e ∙ sym two)

  pub same_where : (shown : Name → Bool) → SameHolders shown es fs → (q : Name) → IsTrue (shown q) → get m q ≡ get k q
  same_where shown alike q s =
      ap (λ (n : Held). get n q) (sym one)
      ∙ seen_where name_cmp name_eq (λ (h : Holder). h) name_total name_exact name_ties shown es fs alike q s
      ∙ ap (λ (n : Held). get n q) two

  pub where_same : (shown : Name → Bool) → ((q : Name) → IsTrue (shown q) → get m q ≡ get k q) → SameHolders shown es fs
  where_same shown same =
      where_seen name_cmp name_eq (λ (h : Holder). h) name_total name_exact name_ties shown es fs
      (λ q s. ap (λ (n : Held). get n q) one ∙ same q s ∙ ap (λ (n : Held). get n q) (sym two))
