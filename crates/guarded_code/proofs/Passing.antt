-- What an operation leaves says the more, the more was said before it, and is one higher at most.
use Rattle.std.proofs.Common.{IsTrue, ◌≡◌, ℕ, zero, suc, ◌+◌, ◌≤◌, List, [], ◌∷◌, map, Bool, true, false, if◌then◌else◌, Option, Some, None, length, slice_get, refl, sym, ap, ◌∙◌, subst, arith}
use Rattle.std.specs.Prelude.{drop, nat_le, option_map}
use Rattle.std.proofs.lemmas.Bool.{false≢true}
use Rattle.std.proofs.lemmas.List.{length-set, length-map}
use Rattle.thread_steps.specs.Codes.{CodeTree}
use Rattle.thread_steps.specs.Op.{Op}
use Rattle.thread_steps.specs.Op.TheVariants.{GetField, PutField, GetElement, PutElement, ReadBarrier, WriteBarrier}
use Rattle.guarded_code.specs.Rounds.{Sent, AllSay, AllLow, Laws}
use Rattle.guarded_code.specs.Descriptions.{ValueKind, Unknown, Access, Reading, Writing, Known, Operand, Description, is_tested, tested, untested, fresh, meet}
use Rattle.guarded_code.specs.Changes.{Change, Loads, Stores, Tests, Trades, change, wanted, is_copy, loaded, forgotten, stored_from, tested_operand, tested_copy, tested_local, copied_at, barred, put, left, changed, goes, sent, passed, passes}
use Rattle.guarded_code.specs.Breaks.{is_tested_at, is_guarded, tests_again}
use Rattle.guarded_code.specs.Says.{Pairwise, KindSays, KnownSays, CopySays, OperandSays, Says}
use Rattle.guarded_code.proofs.Tables.{none_some, some_inj}
use Rattle.guarded_code.proofs.Lists.{each_set, each_map, each_place, each_grow, each_drop, each_or, each_long_same, long_place}
use Rattle.guarded_code.proofs.Order.{known_same, operand_same, says_same, says_trans, meet_first, meet_second, meet_best, meet_less, meet_height, weight, height, light}

-- ---- loads and stores
loaded_says : (n : ℕ) (d x : Description) → Says d x → Says (loaded n d) (loaded n x)
loaded_says n d x h = record {
  stack = ((each_or KnownSays (untested Unknown) (untested Unknown) (known_same (untested Unknown)) d.locals x.locals n h.locals, refl), h.stack);
  locals = h.locals;
}

forgot_copy : (n : ℕ) (c : Option ℕ) → CopySays (if is_copy n c then None else c) (if is_copy n c then None else c)
forgot_copy n c = by (if is_copy n c then None else c)
  where
    by : (k : Option ℕ) → CopySays k k
    by None = tt
    by (Some m) = refl

forgot_says : (n : ℕ) (c k : Option ℕ) → CopySays c k → CopySays (if is_copy n c then None else c) (if is_copy n k then None else k)
forgot_says n c None h = tt
forgot_says n c (Some m) h =
    subst (λ x. CopySays (if is_copy n x then None else x) (if is_copy n (Some m) then None else Some m)) (sym h) (forgot_copy n (Some m))

forgotten_says : (n : ℕ) (o p : Operand) → OperandSays o p → OperandSays (forgotten n o) (forgotten n p)
forgotten_says n o p h = (h.0, forgot_says n o.copies p.copies h.1)

stored_says : (n : ℕ) (os ps : List Operand) (ks ls : List Known) → Pairwise OperandSays os ps → Pairwise KnownSays ks ls → Says (stored_from n os ks) (stored_from n ps ls)
stored_says n [] [] ks ls h i = record { stack = tt; locals = i }
stored_says n (o ∷ os) (p ∷ ps) ks ls h i = record {
  stack = each_map OperandSays OperandSays (forgotten n) (forgotten n) (forgotten_says n) os ps h.1;
  locals = each_set KnownSays ks ls n o.known p.known h.0.0 i;
}
stored_says n os ps ks ls h i = absurd h

-- ---- barriers
tested_kind : (access : Access) (k : Known) → (tested access k).kind ≡ k.kind
tested_kind Reading k = refl
tested_kind Writing k = refl

tests_more : (access : Access) (k l : Known) → ((a : Access) → IsTrue (is_tested a l) → IsTrue (is_tested a k)) → (a : Access) → IsTrue (is_tested a l) → IsTrue (is_tested a (tested access k))
tests_more Reading k l h Writing e = h Writing e
tests_more Writing k l h Reading e = h Reading e
tests_more access k l h a e = refl

tests_both : (access : Access) (k l : Known) → ((a : Access) → IsTrue (is_tested a l) → IsTrue (is_tested a k)) → (a : Access) → IsTrue (is_tested a (tested access l)) → IsTrue (is_tested a (tested access k))
tests_both Reading k l h Writing e = h Writing e
tests_both Writing k l h Reading e = h Reading e
tests_both access k l h a e = refl

pub tested_more : (access : Access) (k l : Known) → KnownSays k l → KnownSays (tested access k) l
tested_more access k l h = record { kind = subst (λ x. KindSays x l.kind) (sym (tested_kind access k)) h.kind; tests = tests_more access k l h.tests }

tested_both : (access : Access) (k l : Known) → KnownSays k l → KnownSays (tested access k) (tested access l)
tested_both access k l h = record {
  kind = subst (KindSays (tested access k).kind) (sym (tested_kind access l)) (subst (λ x. KindSays x l.kind) (sym (tested_kind access k)) h.kind);
  tests = tests_both access k l h.tests;
}

pub operand_more : (access : Access) (o p : Operand) → OperandSays o p → OperandSays (tested_operand access o) p
operand_more access o p h = (tested_more access o.known p.known h.0, h.1)

operand_both : (access : Access) (o p : Operand) → OperandSays o p → OperandSays (tested_operand access o) (tested_operand access p)
operand_both access o p h = (tested_both access o.known p.known h.0, h.1)

if_more : (access : Access) (b : Bool) (o p : Operand) → OperandSays o p → OperandSays (if b then tested_operand access o else o) p
if_more access true o p h = operand_more access o p h
if_more access false o p h = h

pub copy_more : (access : Access) (c : Option ℕ) (o p : Operand) → OperandSays o p → OperandSays (tested_copy access c o) p
copy_more access None o p h = h
copy_more access (Some n) o p h = if_more access (is_copy n o.copies) o p h

-- o is a copy of n where p is
copy_of : (n : ℕ) (c k : Option ℕ) → CopySays c k → is_copy n k ≡ true → is_copy n c ≡ true
copy_of n c None h e = absurd (false≢true e)
copy_of n c (Some m) h e = ap (is_copy n) h ∙ e

if_both : (access : Access) (b d : Bool) (o p : Operand) → (d ≡ true → b ≡ true) → OperandSays o p → OperandSays (if b then tested_operand access o else o) (if d then tested_operand access p else p)
if_both access b false o p f h = if_more access b o p h
if_both access b true o p f h =
    subst (λ x. OperandSays (if x then tested_operand access o else o) (tested_operand access p)) (sym (f refl)) (operand_both access o p h)

copy_both : (access : Access) (c k : Option ℕ) (o p : Operand) → CopySays c k → OperandSays o p → OperandSays (tested_copy access c o) (tested_copy access k p)
copy_both access c None o p e h = copy_more access c o p h
copy_both access c (Some n) o p e h =
    subst (λ x. OperandSays (tested_copy access x o) (tested_copy access (Some n) p)) (sym e)
    (if_both access (is_copy n o.copies) (is_copy n p.copies) o p (copy_of n o.copies p.copies h.1) h)

pub local_more : (access : Access) (c : Option ℕ) (ks ls : List Known) → Pairwise KnownSays ks ls → Pairwise KnownSays (tested_local access c ks) ls
local_more access None ks ls h = h
local_more access (Some n) ks ls h = each_grow KnownSays (tested access) (tested_more access) ks ls n h

local_both : (access : Access) (c k : Option ℕ) (ks ls : List Known) → CopySays c k → Pairwise KnownSays ks ls → Pairwise KnownSays (tested_local access c ks) (tested_local access k ls)
local_both access c None ks ls e h = local_more access c ks ls h
local_both access c (Some n) ks ls e h =
    subst (λ x. Pairwise KnownSays (tested_local access x ks) (tested_local access (Some n) ls)) (sym e) (each_place KnownSays (tested access) (tested_both access) ks ls n h)

copied_says : (os ps : List Operand) (i : ℕ) → Pairwise OperandSays os ps → CopySays (copied_at (slice_get os i)) (copied_at (slice_get ps i))
copied_says [] [] i h = tt
copied_says (o ∷ os) (p ∷ ps) zero h = h.0.1
copied_says (o ∷ os) (p ∷ ps) (suc i) h = copied_says os ps i h.1
copied_says os ps i h = absurd h

barred_says : (access : Access) (depth : ℕ) (c k : Option ℕ) (d x : Description) → CopySays c k → Says d x → Says (barred access depth c d) (barred access depth k x)
barred_says access depth c k d x e h = record {
  stack = each_place OperandSays (tested_operand access) (operand_both access) _ _ depth
      (each_map OperandSays OperandSays (tested_copy access c) (tested_copy access k) (λ o p s. copy_both access c k o p e s) d.stack x.stack h.stack);
  locals = local_both access c k d.locals x.locals e h.locals;
}

-- ---- all changes
put_says : (gives : Option ValueKind) (os ps : List Operand) → Pairwise OperandSays os ps → Pairwise OperandSays (put gives os) (put gives ps)
put_says None os ps h = h
put_says (Some kind) os ps h = (operand_same (fresh kind), h)

left_says : (c : Change) (d x : Description) → Says d x → Says (left c d) (left c x)
left_says (Loads n) d x h = loaded_says n d x h
left_says (Stores n) d x h = stored_says n d.stack x.stack d.locals x.locals h.stack h.locals
left_says (Tests access depth) d x h = barred_says access depth (copied_at (slice_get d.stack depth)) (copied_at (slice_get x.stack depth)) d x (copied_says d.stack x.stack depth h.stack) h
left_says (Trades takes gives) d x h =
    record { stack = put_says gives _ _ (each_drop OperandSays (length takes) d.stack x.stack h.stack); locals = h.locals }

sent_says : (bs : List ℕ) (d x : Description) → Says d x → AllSay Description Says (sent bs d) (sent bs x)
sent_says [] d x h = tt
sent_says (b ∷ bs) d x h = (refl, h, sent_says bs d x h)

pub if_some : {A : Type 0} (b : Bool) (x y : A) → (if b then Some x else None) ≡ Some y → (b ≡ true) × (x ≡ y)
if_some true x y e = (refl, some_inj e)
if_some false x y e = none_some e

pub map_some : {A B : Type 0} (f : A → B) (o : Option A) (y : B) → option_map f o ≡ Some y → (x : A) × (o ≡ Some x) × (f x ≡ y)
map_some f None y e = none_some e
map_some f (Some x) y e = (x, refl, some_inj e)

changed_says : (c : Change) (d x y : Description) → Says d x → changed c x ≡ Some y → (changed c d ≡ Some (left c d)) × Says (left c d) y
changed_says c d x y h e =
    let is = if_some (nat_le (length (wanted c)) (length x.stack)) (left c x) y e in (
      ap (λ b. if b then Some (left c d) else None) (ap (nat_le (length (wanted c))) (each_long_same OperandSays d.stack x.stack h.stack) ∙ is.0),
      subst (Says (left c d)) is.1 (left_says c d x h),
    )

passed_says : (code : CodeTree) (op : Option Op) (a : ℕ) (d x : Description) (qs : Sent Description) → Says d x → passed code op a x ≡ Some qs → (ps : Sent Description) × (passed code op a d ≡ Some ps) × AllSay Description Says ps qs
passed_says code None a d x qs h e = none_some e
passed_says code (Some op) a d x qs h e =
    let is = map_some (sent (goes a op)) (changed (change code op) x) qs e in
    let more = changed_says (change code op) d x is.0 h is.1 in (
      sent (goes a op) (left (change code op) d),
      ap (option_map (sent (goes a op))) more.0,
      subst (λ r. AllSay Description Says (sent (goes a op) (left (change code op) d)) r) is.2 (sent_says (goes a op) (left (change code op) d) is.0 more.1),
    )

-- ---- what says more guards more
tested_at_more : (access : Access) (os ps : List Operand) (i : ℕ) → Pairwise OperandSays os ps → IsTrue (is_tested_at access (slice_get ps i)) → IsTrue (is_tested_at access (slice_get os i))
tested_at_more access [] [] i h g = g
tested_at_more access (o ∷ os) (p ∷ ps) zero h g = h.0.0.tests access g
tested_at_more access (o ∷ os) (p ∷ ps) (suc i) h g = tested_at_more access os ps i h.1 g
tested_at_more access os ps i h g = absurd h

pub guards_more : (op : Op) (d x : Description) → Says d x → IsTrue (is_guarded op x) → IsTrue (is_guarded op d)
guards_more (GetField f) d x h g = tested_at_more Reading d.stack x.stack 0 h.stack g
guards_more (PutField f) d x h g = tested_at_more Writing d.stack x.stack 1 h.stack g
guards_more GetElement d x h g = tested_at_more Reading d.stack x.stack 1 h.stack g
guards_more PutElement d x h g = tested_at_more Writing d.stack x.stack 2 h.stack g
guards_more op d x h g = refl

pub again_more : (op : Op) (d x : Description) → Says d x → IsTrue (tests_again op x) → IsTrue (tests_again op d)
again_more (ReadBarrier depth) d x h e = tested_at_more Reading d.stack x.stack depth h.stack e
again_more (WriteBarrier depth) d x h e = tested_at_more Writing d.stack x.stack depth h.stack e
again_more op d x h e = absurd (false≢true e)

-- ---- heights
drop_low : {A : Type 0} (n : ℕ) (xs : List A) → length (drop n xs) ≤ length xs
drop_low (suc n) (x ∷ xs) = omega (arith, drop_low n xs)
drop_low n xs = omega arith

put_low : (gives : Option ValueKind) (os : List Operand) → length (put gives os) ≤ length os + 1
put_low None os = omega arith
put_low (Some kind) os = omega arith

stored_low : (n : ℕ) (os : List Operand) (ks : List Known) → height (stored_from n os ks) ≤ length os + length ks + 1
stored_low n [] ks = omega arith
stored_low n (o ∷ os) ks = omega (arith, length-map os (forgotten n), length-set ks n o.known)

pub local_long : (access : Access) (c : Option ℕ) (ks : List Known) → length (tested_local access c ks) ≡ length ks
local_long access None ks = refl
local_long access (Some n) ks = long_place (tested access) n ks

barred_low : (access : Access) (depth : ℕ) (c : Option ℕ) (d : Description) → height (barred access depth c d) ≤ height d + 1
barred_low access depth c d =
    omega (arith, long_place (tested_operand access) depth (map (tested_copy access c) d.stack), length-map d.stack (tested_copy access c), local_long access c d.locals)

left_low : (c : Change) (d : Description) → height (left c d) ≤ height d + 1
left_low (Loads n) d = omega arith
left_low (Stores n) d = stored_low n d.stack d.locals
left_low (Tests access depth) d = barred_low access depth (copied_at (slice_get d.stack depth)) d
left_low (Trades takes gives) d = omega (arith, put_low gives (drop (length takes) d.stack), drop_low (length takes) d.stack)

sent_low : (h : ℕ) (bs : List ℕ) (d : Description) → height d ≤ h → AllLow height h (sent bs d)
sent_low h [] d le = tt
sent_low h (b ∷ bs) d le = (le, sent_low h bs d le)

passed_low : (code : CodeTree) (op : Option Op) (a : ℕ) (d : Description) (ps : Sent Description) → passed code op a d ≡ Some ps → AllLow height (height d + 1) ps
passed_low code None a d ps e = none_some e
passed_low code (Some op) a d ps e =
    let is = map_some (sent (goes a op)) (changed (change code op) d) ps e in
    let low = if_some (nat_le (length (wanted (change code op))) (length d.stack)) (left (change code op) d) is.0 is.1 in
    subst (λ r. AllLow height (height d + 1) r) is.2 (sent_low (height d + 1) (goes a op) is.0 (subst (λ x. height x ≤ height d + 1) low.1 (left_low (change code op) d)))

pub laws : (code : CodeTree) (ops : List Op) → Laws Description meet (passes code ops) Says weight height
laws code ops = record {
  says_same = says_same;
  says_trans = says_trans;
  meet_first = meet_first;
  meet_second = meet_second;
  meet_best = meet_best;
  meet_less = meet_less;
  meet_height = meet_height;
  passes_more = λ a d x qs h e. passed_says code (slice_get ops a) a d x qs h e;
  passes_low = λ a d ps e. passed_low code (slice_get ops a) a d ps e;
  light = light;
}
