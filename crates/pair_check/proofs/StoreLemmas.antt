-- Stores look the same exactly where what is seen of them is equal.
use Rattle.std.proofs.Common.{◌≡◌, ◌<◌, ℕ, Bool, true, false, Option, Some, None, refl, sym, ap, ◌∙◌, arith}
use Rattle.std.specs.Prelude.{◌↔◌, IsTrue, cond, unwrap_or}
use Rattle.std.proofs.Math.Path.{fun_ext}
use Rattle.std.specs.FinMap.{FinMap, get}
use Rattle.flow_labels.specs.declared.Label.{Label}
use Rattle.flow_labels.specs.Flow.{flows, public_label}
use Rattle.lam_value.specs.declared.names.Name.{Name}
use Rattle.lam_value.specs.Names.{name_cmp}
use Rattle.lam_value.specs.Homes.{Home, Counts, count_in, IsAboveZero}
use Rattle.lam_value.specs.Homes as homes
use Rattle.lam_value.proofs.Keys.{name_total, name_exact}
use Rattle.labelled_files.specs.Trees.{Tree}
use Rattle.labelled_files.specs.Trees as trees
use Rattle.lam_machine_terms.specs.Views.{shown, shown_counts, where_public}
use Rattle.lam_machine_laws.proofs.PointLemmas.{cond_same, seen_get, seen_map}
use Rattle.lam_machine_laws.proofs.AlikeLemmas.{own_seen}

-- ---- what has names

shown_same : {X : Type 0} (o : Label) (m n : FinMap name_cmp X) → ((q : Name) → IsTrue (flows q.own o) → get m q ≡ get n q) → shown o m ≡ shown o n
shown_same o m n h = seen_map name_total name_exact (own_seen o) m n h

same_shown : {X : Type 0} (o : Label) (m n : FinMap name_cmp X) → shown o m ≡ shown o n → (q : Name) → IsTrue (flows q.own o) → get m q ≡ get n q
same_shown o m n e = seen_get name_total name_exact (own_seen o) m n e

pub shown_by : {X : Type 0} (o : Label) (b : Bool) (m n : FinMap name_cmp X) → IsTrue b ↔ ((q : Name) → IsTrue (flows q.own o) → get m q ≡ get n q) → IsTrue b ↔ (shown o m ≡ shown o n)
shown_by o b m n e = (λ t. shown_same o m n (e.0 t), λ h. e.1 (same_shown o m n h))

pub files_by : (o : Label) (b : Bool) (t u : Tree) → IsTrue b ↔ trees.AreSeenAlike o t u → IsTrue b ↔ ((shown o t.dirs ≡ shown o u.dirs) × (shown o t.files ≡ shown o u.files))
files_by o b t u e = (
  λ h. (shown_same o t.dirs u.dirs (λ q s. (e.0 h q s).0), shown_same o t.files u.files (λ q s. (e.0 h q s).1)),
  λ h. e.1 (λ q s. (same_shown o t.dirs u.dirs h.0 q s, same_shown o t.files u.files h.1 q s)),
)

-- ---- counters

-- a home that is counted at 0 and one that is not counted are told apart by neither
count_got : (x y : Option ℕ) → ((n : ℕ) → x ≡ Some n → 0 < n) → ((n : ℕ) → y ≡ Some n → 0 < n) → unwrap_or x 0 ≡ unwrap_or y 0 → x ≡ y
count_got None None a b e = refl
count_got None (Some n) a b e = let some : 0 < n = b n refl in absurd (omega (arith, e))
count_got (Some m) None a b e = let some : 0 < m = a m refl in absurd (omega (arith, e))
count_got (Some m) (Some n) a b e = ap Some e

counts_shown : (o : Label) (m : Counts) (h : Home) → IsTrue (flows h.maker o) → shown_counts o m h ≡ count_in m h
counts_shown o m h s = ap (λ b. cond b (count_in m h) 0) s

shown_where : (b : Bool) (m n : ℕ) → (b ≡ true → m ≡ n) → cond b m 0 ≡ cond b n 0
shown_where true m n e = e refl
shown_where false m n e = refl

pub counts_by : (o : Label) (b : Bool) (m n : Counts) → IsAboveZero m → IsAboveZero n → IsTrue b ↔ homes.AreSeenAlike o m n → IsTrue b ↔ (shown_counts o m ≡ shown_counts o n)
counts_by o b m n above_m above_n e = (
  λ t. fun_ext (λ (h : Home). shown_where (flows h.maker o) (count_in m h) (count_in n h) (λ s. ap (λ x. unwrap_or x 0) (e.0 t h s))),
  λ same. e.1 (λ h s. count_got (get m h) (get n h) (above_m h) (above_n h) (sym (counts_shown o m h s) ∙ ap (λ (f : Home → ℕ). f h) same ∙ counts_shown o n h s)),
)

-- ---- what is public

pub public_same : {X : Type 0} (o : Label) (x y : Option X) → (IsTrue (flows public_label o) → x ≡ y) → where_public o x ≡ where_public o y
public_same o x y h = cond_same (flows public_label o) x y h

public_shown : {X : Type 0} (o : Label) (x : Option X) → IsTrue (flows public_label o) → where_public o x ≡ x
public_shown o x s = ap (λ b. cond b x None) s

pub same_public : {X : Type 0} (o : Label) (x y : Option X) → where_public o x ≡ where_public o y → IsTrue (flows public_label o) → x ≡ y
same_public o x y e s = sym (public_shown o x s) ∙ e ∙ public_shown o y s

pub some_same : (m n : ℕ) → Some m ≡ Some n → m ≡ n
some_same m n e = cc
