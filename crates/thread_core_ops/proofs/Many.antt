-- So many operands from the top.
use Rattle.std.proofs.Common.{◌≡◌, ℕ, ◌+◌, ◌-◌, ◌<◌, ◌≤◌, Bool, true, false, cond, List, [], ◌∷◌, ◌++◌, length, take, drop, reverse, Option, Some, None, sym, ap, ◌∙◌, refl, arith}
use Rattle.std.specs.Prelude.{◌&&◌, ◌||◌, is_some}
use Rattle.std.specs.FinSet.{from_list}
use Rattle.std.proofs.lemmas.Bool.{le-leb, lt-leb}
use Rattle.std.proofs.lemmas.List.{reverse-append, length-reverse, length-take-le, length-drop, take-append-drop, take-take, take_at, drop_at, drop-drop, drop-take}
use Rattle.lam_value.specs.declared.values.Value.{Value}
use Rattle.lam_value.specs.declared.values.Value.TheVariants.{Lab}
use Rattle.lam_asks.specs.declared.fault.Fault.TheVariants.{Null}
use Rattle.thread_steps.specs.Operators.{Pure, fine, faults, wrong, is_null, some_null, tags_in, label_by, label_from}
use Rattle.thread_steps.specs.Ops.{Did, breaks, on_many, operated}
use Rattle.thread_core_effects.specs.Acting.{tag_list, labelled}
use Rattle.thread_core_effects.proofs.Lists.{tags_are}

pub many_fits : (n : ℕ) (s : List Value) (go : List Value → List Value → Did) → n ≤ length s → on_many n s go ≡ go (reverse (take n s)) (drop n s)
many_fits n s go h = ap (λ b. cond b (go (reverse (take n s)) (drop n s)) breaks) (le-leb n (length s) h)

pub many_short : (n : ℕ) (s : List Value) (go : List Value → List Value → Did) → length s < n → on_many n s go ≡ breaks
many_short n s go h = ap (λ b. cond b (go (reverse (take n s)) (drop n s)) breaks) (lt-leb n (length s) h)

-- ---- labels of tags

or_more : (a b c d : Bool) → d ≡ (b || c) → (a || d) ≡ ((a || b) || c)
or_more true b c d e = refl
or_more false b c d e = e

both : (a b : Bool) → (a && b) ≡ true → (a ≡ true) × (b ≡ true)
both true b e = (refl, e)
both false b e = cc

by_none : (o p : Option (List ℕ)) → (is_some o && is_some p) ≡ false → label_by o p ≡ wrong
by_none None p e = refl
by_none (Some t) None e = refl
by_none (Some t) (Some u) e = cc

some_null-append : (xs ys : List Value) → some_null (xs ++ ys) ≡ (some_null xs || some_null ys)
some_null-append [] ys = refl
some_null-append (x ∷ xs) ys = or_more (is_null x) (some_null xs) (some_null ys) (some_null (xs ++ ys)) (some_null-append xs ys)

pub either_null : (xs ys : List Value) → (some_null xs || some_null ys) ≡ some_null (xs ++ ys)
either_null xs ys = sym (some_null-append xs ys)

pub null_left : (xs ys : List Value) (b : Bool) → b ≡ some_null xs → b ≡ true → b ≡ some_null (xs ++ ys)
null_left xs ys b e t = t ∙ (sym (ap (λ x. x || some_null ys) (sym e ∙ t)) ∙ either_null xs ys)

pub null_right : (xs ys : List Value) (a b : Bool) → a ≡ some_null xs → a ≡ false → b ≡ some_null ys → b ≡ some_null (xs ++ ys)
null_right xs ys a b e f g = g ∙ (sym (ap (λ x. x || some_null ys) (sym e ∙ f)) ∙ either_null xs ys)

pub label_null : (xs ys : List Value) → some_null (xs ++ ys) ≡ true → label_from xs ys ≡ faults Null
label_null xs ys e = ap (λ b. cond b (faults Null) (label_by (tags_in xs) (tags_in ys))) e

pub label_fine : (xs ys : List Value) → some_null (xs ++ ys) ≡ false → (is_some (tags_in xs) && is_some (tags_in ys)) ≡ true
    → label_from xs ys ≡ fine (Lab (record { s = from_list (tag_list xs); i = from_list (tag_list ys) }))
label_fine xs ys e f =
    let p = both (is_some (tags_in xs)) (is_some (tags_in ys)) f in
    ap (λ b. cond b (faults Null) (label_by (tags_in xs) (tags_in ys))) e
    ∙ (ap (λ t. label_by t (tags_in ys)) (tags_are xs p.0) ∙ ap (λ t. label_by (Some (tag_list xs)) t) (tags_are ys p.1))

pub label_wrong : (xs ys : List Value) → some_null (xs ++ ys) ≡ false → (is_some (tags_in xs) && is_some (tags_in ys)) ≡ false → label_from xs ys ≡ wrong
label_wrong xs ys e f = ap (λ b. cond b (faults Null) (label_by (tags_in xs) (tags_in ys))) e ∙ by_none (tags_in xs) (tags_in ys) f

-- ---- two runs of operands, one above the other

runs : (p q : ℕ) (s : List Value) → p + q ≤ length s → reverse (take (p + q) s) ≡ reverse (take p (drop q s)) ++ reverse (take q s)
runs p q s h =
    let n : p + q ≡ q + p = omega arith in
    let split : take (p + q) s ≡ take q s ++ take p (drop q s) =
    sym (take-append-drop q (take (p + q) s))
    ∙ (ap (λ l. l ++ drop q (take (p + q) s)) (take-take q (p + q) s (omega arith))
    ∙ ap (λ l. take q s ++ l) (ap (λ k. drop q (take k s)) n ∙ drop-take q p s)) in
    ap reverse split ∙ reverse-append (take q s) (take p (drop q s))

front_length : (p q : ℕ) (s : List Value) → p + q ≤ length s → length (reverse (take p (drop q s))) ≡ p
front_length p q s h = length-reverse (take p (drop q s)) ∙ length-take-le p (drop q s) (omega (arith, length-drop q s))

pub front_run : (p q : ℕ) (s : List Value) → p + q ≤ length s → take p (reverse (take (p + q) s)) ≡ reverse (take p (drop q s))
front_run p q s h = ap (take p) (runs p q s h) ∙ take_at (reverse (take p (drop q s))) (reverse (take q s)) p (front_length p q s h)

pub back_run : (p q : ℕ) (s : List Value) → p + q ≤ length s → drop p (reverse (take (p + q) s)) ≡ reverse (take q s)
back_run p q s h = ap (drop p) (runs p q s h) ∙ drop_at (reverse (take p (drop q s))) (reverse (take q s)) p (front_length p q s h)

pub labelled_fits : (p q : ℕ) (s : List Value) → p + q ≤ length s
    → labelled p q s ≡ operated (drop (p + q) s) (label_from (take p (reverse (take (p + q) s))) (drop p (reverse (take (p + q) s))))
labelled_fits p q s h =
    let n : p + q ≡ q + p = omega arith in
    let x = front_run p q s h in
    let y = back_run p q s h in
    let d : drop p (drop q s) ≡ drop (p + q) s = drop-drop p q s ∙ ap (λ k. drop k s) (sym n) in
    many_fits q s (λ vouchers t. on_many p t (λ secrets u. operated u (label_from secrets vouchers))) (omega arith)
    ∙ (many_fits p (drop q s) (λ secrets u. operated u (label_from secrets (reverse (take q s)))) (omega (arith, length-drop q s))
    ∙ (ap (λ l. operated l (label_from (reverse (take p (drop q s))) (reverse (take q s)))) d
    ∙ (ap (λ l. operated (drop (p + q) s) (label_from l (reverse (take q s)))) (sym x)
    ∙ ap (λ l. operated (drop (p + q) s) (label_from (take p (reverse (take (p + q) s))) l)) (sym y))))

pub made_label : (p q : ℕ) (s tags a b : List Value) (x : Pure) → p + q ≤ length s → tags ≡ reverse (take (p + q) s) → a ≡ take p tags → b ≡ drop p tags → x ≡ label_from a b
    → operated (drop (p + q) s) x ≡ labelled p q s
made_label p q s tags a b x h t f g e =
    let r = reverse (take (p + q) s) in
    let m : a ≡ take p r = f ∙ ap (take p) t in
    let n : b ≡ drop p r = g ∙ ap (drop p) t in
    ap (operated (drop (p + q) s)) (e ∙ (ap (λ l. label_from l b) m ∙ ap (λ l. label_from (take p r) l) n)) ∙ sym (labelled_fits p q s h)
