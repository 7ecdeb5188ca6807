-- Laws of labels by number and of answers by pair.
use Rattle.std.proofs.Common.{◌≡◌, ℕ, ◌+◌, ◌<◌, ◌≤◌, Bool, true, false, cond, is_some, List, [], ◌∷◌, ◌++◌, length, slice_get, Option, Some, None, suc, zero, Result, Ok, Err, IfSome, OnOk, OnErr, refl, sym, ap, ap₂, subst, ◌∙◌, arith}
use Rattle.std.specs.Prelude.{if◌then◌else◌, not, nat_lt}
use Rattle.std.proofs.lemmas.Bool.Decides.{nat_tests}
use Rattle.std.specs.Ordering.{nat_cmp, eq_by_cmp}
use Rattle.std.specs.Cmp.{IsTotalOrder, both_tied, unsigned_ties}
use Rattle.std.proofs.lemmas.Cmp.{nat_cmp_total, on_total, then_total}
use Rattle.std.specs.FinMap.{get, insert, len, from_entries, len-insert, len-empty, IsAntisymmetric, nat_cmp-IsAntisymmetric}
use Rattle.std.specs.HashMap.{HashMap}
use Rattle.std.specs.HashSet.{HashSet}
use Rattle.std.specs.List.{IsDistinct, AllByRecursion, list_any, position_or_len}
use Rattle.std.specs.Map.{lookup, keys_of}
use Rattle.flow_labels.specs.declared.Label.{Label}
use Rattle.lam_value_homes.specs.Homes.{label_eq}
use Rattle.lam_value_homes.proofs.Keys.{then_parts, label_exact, label_total, label_ties}
use Rattle.lam_value_homes.proofs.Rows.{itself, is_same, get_same, entries_insert}
use Rattle.label_table.specs.declared.Pair.{Pair}
use Rattle.label_table.specs.Tables.{pair_cmp, pair_eq, Answers, Table, flows_between, answer_of, number_of, interned, has_room, with_answer, asked, IsAnswer, IsKept, IsSound}

-- ---- pairs
pub pair_exact : IsAntisymmetric pair_cmp
pair_exact p q e =
    let parts = then_parts (nat_cmp p.from q.from) (nat_cmp p.to q.to) e in
    let a = nat_cmp-IsAntisymmetric p.from q.from parts.0 in
    let b = nat_cmp-IsAntisymmetric p.to q.to parts.1 in
    λ j. record { from = a j; to = b j }

pub pair_total : IsTotalOrder pair_cmp
pair_total = then_total (on_total (λ (p : Pair). p.from) nat_cmp_total) (on_total (λ (p : Pair). p.to) nat_cmp_total)

pub pair_ties : (p q : Pair) → pair_eq p q ≡ eq_by_cmp pair_cmp p q
pair_ties p q = both_tied _ _ (nat_cmp p.from q.from) (nat_cmp p.to q.to) (unsigned_ties p.from q.from) (unsigned_ties p.to q.to)

-- ---- labels
pub label_same : (x y : Label) → label_eq x y ≡ true → x ≡ y
label_same = is_same label_eq label_total label_exact label_ties

-- a label does not stand among those that it is told apart from
apart : (l : Label) (ls : List Label) (n : ℕ) → AllByRecursion (λ y. label_eq l y ≡ false) ls → slice_get ls n ≡ Some l → ⊥
apart l [] n a e = cc
apart l (x ∷ ls) zero a e =
    let same : x ≡ l = cc in
    let no : true ≡ false = sym (itself label_eq label_total label_exact label_ties l) ∙ ap (label_eq l) (sym same) ∙ a.0 in cc
apart l (x ∷ ls) (suc n) a e = apart l ls n a.1 e

pub one_each : (ls : List Label) → IsDistinct label_eq ls → (n m : ℕ) (l : Label) → slice_get ls n ≡ Some l → slice_get ls m ≡ Some l → n ≡ m
unfolding IsDistinct
one_each [] d n m l e f = cc
one_each (x ∷ ls) d zero zero l e f = refl
one_each (x ∷ ls) d zero (suc m) l e f =
    let same : x ≡ l = cc in absurd (apart l ls m (subst (λ k. AllByRecursion (λ y. label_eq k y ≡ false) ls) same d.0) f)
one_each (x ∷ ls) d (suc n) zero l e f =
    let same : x ≡ l = cc in absurd (apart l ls n (subst (λ k. AllByRecursion (λ y. label_eq k y ≡ false) ls) same d.0) e)
one_each (x ∷ ls) d (suc n) (suc m) l e f = ap suc (one_each ls d.1 n m l e f)

found : (ls : List Label) (l : Label) → position_or_len (label_eq l) ls < length ls → slice_get ls (position_or_len (label_eq l) ls) ≡ Some l
found [] l lt = absurd (omega (arith, lt))
found (x ∷ ls) l lt = by (label_eq l x) refl (found ls l) lt
  where
    by : (b : Bool) → label_eq l x ≡ b → (position_or_len (label_eq l) ls < length ls → slice_get ls (position_or_len (label_eq l) ls) ≡ Some l)
        → cond (not b) (1 + position_or_len (label_eq l) ls) 0 < length (x ∷ ls) → slice_get (x ∷ ls) (cond (not b) (1 + position_or_len (label_eq l) ls) 0) ≡ Some l
    by true e later lt = ap (λ y. Some y) (sym (label_same l x e))
    by false e later lt =
        let next : 1 + position_or_len (label_eq l) ls ≡ suc (position_or_len (label_eq l) ls) = omega arith in
        ap (slice_get (x ∷ ls)) next ∙ later (omega (arith, lt))

-- where a label has a number, it stands there
pub number_stands : (ls : List Label) (l : Label) → IfSome (number_of ls l) (λ n. slice_get ls n ≡ Some l)
number_stands ls l = by (nat_lt (position_or_len (label_eq l) ls) (length ls)) refl
  where
    by : (b : Bool) → nat_lt (position_or_len (label_eq l) ls) (length ls) ≡ b → IfSome (cond b (Some (position_or_len (label_eq l) ls)) None) (λ n. slice_get ls n ≡ Some l)
    by true e = found ls l (grind (arith, nat_tests, e))
    by false e = tt

-- what follows from a success and from a refusal alike
pub either_way : {X Y : Type 0} (P : Type 0) {A B : Type 0} (r : Result X Y) → OnOk r A → OnErr r B → (A → P) → (B → P) → P
either_way P (Ok x) a b f g = f a
either_way P (Err y) a b f g = g b

-- ---- answers
module _ (es : List (Pair × Bool)) where
  pub answer_seen : (p : Pair) → lookup (pair_eq p) es ≡ get (from_entries {R = pair_cmp} es) p
  answer_seen p = get_same pair_eq pair_total pair_exact pair_ties p es

  pub answer_put : (fs : List (Pair × Bool)) (p : Pair) (b : Bool) → ((q : Pair) → lookup (pair_eq q) fs ≡ cond (pair_eq p q) (Some b) (lookup (pair_eq q) es)) → from_entries {R = pair_cmp} fs ≡ insert (from_entries es) p b
  answer_put fs p b put = entries_insert pair_eq pair_total pair_exact pair_ties es fs p b put

-- what is looked up is what is seen at the pair
pub looked_up : (es : List (Pair × Bool)) (m : Answers) → from_entries es ≡ m → (p q : Pair) (r : Option Bool) → p ≡ q → r ≡ lookup (pair_eq p) es → r ≡ get m q
looked_up es m seen p q r e is = is ∙ ap (λ x. lookup (pair_eq x) es) e ∙ answer_seen es q ∙ ap (λ (a : Answers). get a q) seen

absent : (p : Pair) (es : List (Pair × Bool)) → AllByRecursion (λ q. pair_eq p q ≡ false) (keys_of es) → lookup (pair_eq p) es ≡ None
absent p [] none = refl
absent p (e ∷ es) none = (λ i. cond (none.0 i) (Some e.1) (lookup (pair_eq p) es)) ∙ absent p es none.1

-- as many pairs are seen as stand there
pub count_seen : (es : List (Pair × Bool)) → IsDistinct pair_eq (keys_of es) → len (from_entries {R = pair_cmp} es) ≡ length es
unfolding IsDistinct
count_seen [] d = len-empty pair_cmp Bool
count_seen (e ∷ es) d =
    let new : is_some (get (from_entries {R = pair_cmp} es) e.0) ≡ false = ap is_some (sym (answer_seen es e.0) ∙ absent e.0 es d.0) in
    let long = count_seen es d.1 in
    let one : len (from_entries {R = pair_cmp} es) + 1 ≡ suc (length es) = omega (arith, long) in
    len-insert pair_total (from_entries es) e.0 e.1
    ∙ ap (λ b. cond b (len (from_entries {R = pair_cmp} es)) (len (from_entries {R = pair_cmp} es) + 1)) new
    ∙ one

-- ---- an answer stays where labels are added
within_more : (ls ms : List Label) (n : ℕ) → n < length ls → slice_get (ls ++ ms) n ≡ slice_get ls n
within_more [] ms n lt = absurd (omega (arith, lt))
within_more (l ∷ ls) ms zero lt = refl
within_more (l ∷ ls) ms (suc n) lt = within_more ls ms n (omega (arith, lt))

longer : (ls : List Label) (l : Label) → length ls ≤ length (ls ++ l ∷ [])
longer [] l = omega arith
longer (x ∷ ls) l = omega (arith, longer ls l)

pushed : (ls : List Label) (l : Label) (p : Pair) (b : Bool) → IsAnswer ls p b → IsAnswer (ls ++ l ∷ []) p b
pushed ls l p b is = record {
  from = omega (arith, is.from, longer ls l);
  to = omega (arith, is.to, longer ls l);
  answer = is.answer ∙ ap₂ flows_between (sym (within_more ls (l ∷ []) p.from is.from)) (sym (within_more ls (l ∷ []) p.to is.to));
}

pub answer_stays : (ls : List Label) (l : Label) (p : Pair) (b : Bool) → IsAnswer ls p b → IsAnswer (interned ls l) p b
answer_stays ls l p b is = by (list_any (label_eq l) ls)
  where
    by : (c : Bool) → IsAnswer (if c then ls else ls ++ l ∷ []) p b
    by true = is
    by false = pushed ls l p b is

-- ---- what is kept in code
module _ {S T : Type 0} (labels : HashSet Label S) (answers : HashMap Pair Bool T) (room : ℕ) (kept : IsKept labels answers room) where
  -- other labels, among which the answers stay
  pub kept_labels : (new : HashSet Label S) → IsDistinct label_eq new.keys → ((p : Pair) (b : Bool) → IsAnswer labels.keys p b → IsAnswer new.keys p b) → IsKept new answers room
  kept_labels new distinct stays = record {
    distinct = distinct;
    unique = kept.unique;
    right = λ p b e. stays p b (kept.right p b e);
    within = kept.within;
    spare = kept.spare;
  }

  -- the table, as it is seen
  pub sound : (t : Table) → t.labels ≡ labels.keys → t.answers ≡ from_entries answers.entries → t.room ≡ room → IsSound t
  sound t ls ms r = record {
    one_each = λ n m l e f. one_each labels.keys kept.distinct n m l (ap (λ k. slice_get k n) (sym ls) ∙ e) (ap (λ k. slice_get k m) (sym ls) ∙ f);
    right = λ p b e. (kept.right p b (answer_seen answers.entries p ∙ ap (λ (m : Answers). get m p) (sym ms) ∙ e)).answer ∙ ap (λ k. answer_of k p) (sym ls);
    within = omega (arith, kept.within, count_seen answers.entries kept.unique, ap (λ (m : Answers). len m) ms, r);
  }

-- ---- a table that was asked
pub asked_known : (t : Table) (p : Pair) (b : Bool) → get t.answers p ≡ Some b → t ≡ asked t p
asked_known t p b e = sym (ap (λ o. if is_some o then t else (if has_room t then with_answer t p else t)) e)

pub asked_full : (t : Table) (p : Pair) → get t.answers p ≡ None → has_room t ≡ false → t ≡ asked t p
asked_full t p e full =
    sym (ap (λ o. if is_some o then t else (if has_room t then with_answer t p else t)) e ∙ ap (λ r. if r then with_answer t p else t) full)

pub asked_new : (t : Table) (p : Pair) → get t.answers p ≡ None → has_room t ≡ true → with_answer t p ≡ asked t p
asked_new t p e room =
    sym (ap (λ o. if is_some o then t else (if has_room t then with_answer t p else t)) e ∙ ap (λ r. if r then with_answer t p else t) room)

abbrev table_of : List Label → Answers → ℕ → Table
table_of ls answers room = record { labels = ls; answers = answers; room = room }

-- one more answer is seen
pub put_seen : (ls : List Label) (es fs : List (Pair × Bool)) (room : ℕ) (t : Table) (p q : Pair) (b : Bool) → table_of ls (from_entries es) room ≡ t → p ≡ q → b ≡ answer_of ls p
    → ((k : Pair) → lookup (pair_eq k) fs ≡ cond (pair_eq p k) (Some b) (lookup (pair_eq k) es)) → table_of ls (from_entries fs) room ≡ with_answer t q
put_seen ls es fs room t p q b seen e right put =
    ap (λ (a : Answers). table_of ls a room) (answer_put es fs p b put ∙ ap (insert (from_entries {R = pair_cmp} es) p) right) ∙ ap₂ with_answer seen e

-- there is room exactly where fewer pairs stand there
pub room_seen : (es : List (Pair × Bool)) (t : Table) (n room : ℕ) → IsDistinct pair_eq (keys_of es) → from_entries es ≡ t.answers → room ≡ t.room → n ≡ length es → nat_lt n room ≡ has_room t
room_seen es t n room d seen same e =
    let long : n ≡ len t.answers = e ∙ sym (count_seen es d) ∙ ap (λ (m : Answers). len m) seen in
    ap₂ nat_lt long same
