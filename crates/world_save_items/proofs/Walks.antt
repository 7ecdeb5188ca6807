-- What is found and what is still to be found, together, are all items; each step makes the second less.
use Rattle.std.proofs.Common.{◌≡◌, ◌≤◌, ◌<◌, ◌+◌, ◌-◌, ◌*◌, ℕ, zero, suc, false, List, [], ◌∷◌, ◌++◌, map, length, take, drop, Some, None, refl, sym, ap, ◌∙◌, subst, arith, append_assoc, append-nil, length-append}
use Rattle.std.specs.Prelude.{cond, slice_get, reverse, Result, Ok, Err, OnOk}
use Rattle.std.specs.List.{AllByRecursion, IsDistinct, flat_map}
use Rattle.std.specs.Cmp.Lexicographic.{nat_list_eq_equiv}
use Rattle.std.specs.Map.{lookup, keys_of}
use Rattle.std.specs.FinMap.{len}
use Rattle.std.proofs.lemmas.List.{length-take, length-map, map-append, reverse-append}
use Rattle.std.proofs.lemmas.Option.{slice_get_within}
use Rattle.std.proofs.Math.Seq.{take-append_seam, take-length}
use Rattle.json.specs.Print.{escape}
use Rattle.flow_labels.specs.TwoLists.{Text}
use Rattle.lam_value.specs.declared.names.Name.{Name}
use Rattle.labelled_files.specs.declared.directory.Target.{Target}
use Rattle.labelled_files.specs.declared.directory.EntryKind.{EntryKind}
use Rattle.labelled_files.specs.declared.directory.EntryKind.TheVariants.{File, Dir}
use Rattle.labelled_files.specs.Entries.{Entries, text_eq, entry_of}
use Rattle.labelled_files.specs.Trees.{Tree, entries_at, IsSound}
use Rattle.world_forest.specs.Forest.{IsForest}
use Rattle.world_save_terms.specs.Items.{Item, below as under, held_by, at_entry, items_below, items_of}
use Rattle.world_save_items.specs.Measures.{capped}
use Rattle.world_save_items.specs.Steps.{Found, found, path_of, items_from, AreMeasured, IsWalk, Todo, todo as seen, found_at, whole_dir, inside, todo_after}
use Rattle.world_save_items.specs.declared.traversal.Step.{Step}
use Rattle.world_save_items.specs.declared.traversal.Frame.{Frame}
use Rattle.world_save_items.proofs.Chains.{IsChain, few}

-- ---- what is still to be found, by what is to be done, the top first

abbrev pub left : ℕ → Tree → Text → List Todo → List Item
left b t path [] = []
left b t path (f ∷ fs) = flat_map (at_entry (items_below b t) (take f.cut path)) (drop f.next (entries_at t f.dir)) ++ left (suc b) t path fs

-- so many levels may still be below
abbrev pub rest_of : Tree → Text → List Todo → List Item
rest_of t path fs = left (len t.dirs - length fs) t path fs

-- twice what is to be found, and what is to be done
abbrev pub size : Tree → Text → List Todo → ℕ
size t path fs = 2 * length (rest_of t path fs) + length fs

-- each path is a front of those above it
abbrev pub AreNested : ℕ → List Todo → Type 0
AreNested n [] = Unit {0}
AreNested n (f ∷ fs) = (f.cut ≤ n) × AreNested f.cut fs

abbrev pub AreKnown : Text → List Todo → Type 0
AreKnown path fs = AllByRecursion (λ (f : Todo). f.bytes ≡ capped (length (escape (take f.cut path)))) fs

abbrev dirs : List Todo → List Name
dirs fs = map (λ (f : Todo). f.dir) fs

abbrev pub path_after : Text → List Found → Text
path_after path [] = path
path_after path (f ∷ fs) = path_after (path_of path f) fs

pub record IsWalking (t : Tree) (fs : List Found) (todo : List Todo) (path : Text) : Type 0 where
  pub chain : IsChain t (dirs todo)
  pub nested : AreNested (length path) todo
  pub known : AreKnown path todo
  pub last : path_after [] fs ≡ path
  pub measured : AreMeasured [] fs
  pub items : items_from [] fs ++ rest_of t path todo ≡ items_of t

-- ---- steps

items_last : (path : Text) (fs : List Found) (f : Found) → items_from path (fs ++ f ∷ []) ≡ items_from path fs ++ record { path = path_of (path_after path fs) f; target = record { kind = f.kind; name = f.name } } ∷ []
items_last path [] f = refl
items_last path (g ∷ fs) f = ap (λ is. record { path = path_of path g; target = record { kind = g.kind; name = g.name } } ∷ is) (items_last (path_of path g) fs f)

path_last : (path : Text) (fs : List Found) (f : Found) → path_after path (fs ++ f ∷ []) ≡ path_of (path_after path fs) f
path_last path [] f = refl
path_last path (g ∷ fs) f = path_last (path_of path g) fs f

measured_last : (path : Text) (fs : List Found) (f : Found) → AreMeasured path fs → f.bytes ≡ capped (length (escape (path_of (path_after path fs) f))) → AreMeasured path (fs ++ f ∷ [])
measured_last path [] f m e = (e, tt)
measured_last path (g ∷ fs) f m e = (m.0, measured_last (path_of path g) fs f m.1 e)

-- ---- paths

take_less : (c b : ℕ) (xs ys : Text) → c ≤ b → take b xs ≡ take b ys → take c xs ≡ take c ys
take_less zero b xs ys le e = refl
take_less (suc c) zero xs ys le e = absurd (omega arith)
take_less (suc c) (suc b) [] [] le e = refl
take_less (suc c) (suc b) [] (y ∷ ys) le e = cc
take_less (suc c) (suc b) (x ∷ xs) [] le e = cc
take_less (suc c) (suc b) (x ∷ xs) (y ∷ ys) le e =
    let head : x ≡ y = cc in
    let tail : take b xs ≡ take b ys = cc in
    let more = take_less c b xs ys (omega arith) tail in
    λ i. head i ∷ more i

-- the path of a directory is a front of the paths of its entries
front : (path text : Text) → take (length path) (under path text) ≡ path
front [] text = refl
front (b ∷ bs) text = take-append_seam (b ∷ bs) (47 ∷ text)

long : (path text : Text) → length path ≤ length (under path text)
long [] text = omega arith
long (b ∷ bs) text = let e = length-append (b ∷ bs) (47 ∷ text) in omega arith

module _ (t : Tree) (path : Text) (f : Todo) (cut : f.cut ≤ length path) (text : Text) where
  abbrev pub new_path : Text
  new_path = under (take f.cut path) text

  cut_is : length (take f.cut path) ≡ f.cut
  cut_is = let e = length-take f.cut path in omega arith

  same_front : take f.cut new_path ≡ take f.cut path
  same_front = subst (λ n. take n new_path ≡ take f.cut path) cut_is (front (take f.cut path) text)

  longer : f.cut ≤ length new_path
  longer = let e = long (take f.cut path) text in let c = cut_is in omega arith

  -- what is to be done below stays as it is
  left_same : (b n : ℕ) (fs : List Todo) → AreNested n fs → n ≤ f.cut → left b t new_path fs ≡ left b t path fs
  left_same b n [] nested le = refl
  left_same b n (g ∷ fs) nested le =
      let here : take g.cut new_path ≡ take g.cut path = let k = nested.0 in take_less g.cut f.cut new_path path (omega arith) same_front in
      let rest = left_same (suc b) g.cut fs nested.1 (let k = nested.0 in omega arith) in
      λ i. flat_map (at_entry (items_below b t) (here i)) (drop g.next (entries_at t g.dir)) ++ rest i

  known_same : (n : ℕ) (fs : List Todo) → AreNested n fs → n ≤ f.cut → AreKnown path fs → AreKnown new_path fs
  known_same n [] nested le known = tt
  known_same n (g ∷ fs) nested le known =
      let here : take g.cut new_path ≡ take g.cut path = let k = nested.0 in take_less g.cut f.cut new_path path (omega arith) same_front in
      (known.0 ∙ ap (λ p. capped (length (escape p))) (sym here), known_same g.cut fs nested.1 (let k = nested.0 in omega arith) known.1)

-- ---- entries

drop_none : {X : Type 0} (xs : List X) (n : ℕ) → slice_get xs n ≡ None → drop n xs ≡ []
drop_none [] zero e = refl
drop_none [] (suc n) e = refl
drop_none (x ∷ xs) zero e = absurd cc
drop_none (x ∷ xs) (suc n) e = drop_none xs n e

drop_some : {X : Type 0} (xs : List X) (n : ℕ) (x : X) → slice_get xs n ≡ Some x → drop n xs ≡ x ∷ drop (suc n) xs
drop_some [] n x e = absurd cc
drop_some (y ∷ xs) zero x e = let same : y ≡ x = cc in λ i. same i ∷ xs
drop_some (y ∷ xs) (suc n) x e = drop_some xs n x e

add_one : (n : ℕ) → n + 1 ≡ suc n
add_one n = omega arith

-- ---- the entry at a place is found by its name

keyed : (text : Text) (es : Entries) (n : ℕ) (e : Text × Target) → AllByRecursion (λ k. text_eq text k ≡ false) (keys_of es) → slice_get es n ≡ Some e → text_eq text e.0 ≡ false
keyed text [] n e all is = cc
keyed text (x ∷ es) zero e all is = let same : x ≡ e = cc in subst (λ (y : Text × Target). text_eq text y.0 ≡ false) same all.0
keyed text (x ∷ es) (suc n) e all is = keyed text es n e all.1 is

found_by : (es : Entries) (n : ℕ) (e : Text × Target) → IsDistinct text_eq (keys_of es) → slice_get es n ≡ Some e → lookup (text_eq e.0) es ≡ Some e.1
unfolding IsDistinct
found_by [] n e distinct is = cc
found_by (x ∷ es) zero e distinct is =
    let same : x ≡ e = cc in
    subst (λ (y : Text × Target). lookup (text_eq y.0) (x ∷ es) ≡ Some y.1) same (ap (λ b. cond b (Some x.1) (lookup (text_eq x.0) es)) (nat_list_eq_equiv.refl x.0))
found_by (x ∷ es) (suc n) e distinct is =
    let no : text_eq e.0 x.0 ≡ false = nat_list_eq_equiv.symm e.0 x.0 ∙ keyed x.0 es n e distinct.0 is in
    ap (λ b. cond b (Some x.1) (lookup (text_eq e.0) es)) no ∙ found_by es n e distinct.1 is

-- ---- the levels that may still be below

module _ (t : Tree) (sound : IsSound t) (forest : IsForest t) where
  levels : (f : Todo) (fs : List Todo) → IsChain t (dirs (f ∷ fs)) → length (f ∷ fs) ≤ len t.dirs
  levels f fs chain = let n = few t forest sound.rooted (dirs (f ∷ fs)) chain in let e : length (dirs (f ∷ fs)) ≡ length (f ∷ fs) = simp length-map in omega arith

  -- nothing more in a directory
  pub none_left : (path : Text) (f : Todo) (fs : List Todo) → IsChain t (dirs (f ∷ fs)) → slice_get (entries_at t f.dir) f.next ≡ None → rest_of t path (f ∷ fs) ≡ rest_of t path fs
  none_left path f fs chain e =
      let k = levels f fs chain in
      let up : suc (len t.dirs - length (f ∷ fs)) ≡ len t.dirs - length fs = omega arith in
      ap (λ es. flat_map (at_entry (items_below (len t.dirs - length (f ∷ fs)) t) (take f.cut path)) es ++ left (suc (len t.dirs - length (f ∷ fs))) t path fs) (drop_none (entries_at t f.dir) f.next e)
      ∙ ap (λ b. left b t path fs) up

  module _ (path : Text) (f : Todo) (fs : List Todo) (chain : IsChain t (dirs (f ∷ fs))) (nested : AreNested (length path) (f ∷ fs)) where
    abbrev pub to : Text → Text
    to text = under (take f.cut path) text

    abbrev onward : Todo
    onward = record f { next = f.next + 1 }

    abbrev here : Text → EntryKind → Name → Item
    here text kind n = record { path = to text; target = record { kind = kind; name = n } }

    -- what a directory's entries from the next one on hold
    rest_same : (text : Text) (b : ℕ) → left b t (to text) (onward ∷ fs) ≡ flat_map (at_entry (items_below b t) (take f.cut path)) (drop (suc f.next) (entries_at t f.dir)) ++ left (suc b) t path fs
    rest_same text b =
        let front = same_front t path f nested.0 text in
        let more = left_same t path f nested.0 text (suc b) f.cut fs nested.1 (omega arith) in
        let next = add_one f.next in
        λ i. flat_map (at_entry (items_below b t) (front i)) (drop (next i) (entries_at t f.dir)) ++ more i

    first : (text : Text) (kind : EntryKind) (n : Name) (b : ℕ) → slice_get (entries_at t f.dir) f.next ≡ Some (text, record { kind = kind; name = n }) → left b t path (f ∷ fs) ≡ here text kind n ∷ (held_by kind (items_below b t (to text) n) ++ left b t (to text) (onward ∷ fs))
    first text kind n b e =
        ap (λ es. flat_map (at_entry (items_below b t) (take f.cut path)) es ++ left (suc b) t path fs) (drop_some (entries_at t f.dir) f.next (text, record { kind = kind; name = n }) e)
        ∙ ap (λ is. here text kind n ∷ is) (append_assoc (held_by kind (items_below b t (to text) n)) (flat_map (at_entry (items_below b t) (take f.cut path)) (drop (suc f.next) (entries_at t f.dir))) (left (suc b) t path fs))
        ∙ ap (λ is. here text kind n ∷ (held_by kind (items_below b t (to text) n) ++ is)) (sym (rest_same text b))

    chain_inside : (text : Text) (n : Name) → slice_get (entries_at t f.dir) f.next ≡ Some (text, record { kind = Dir; name = n }) → IsChain t (n ∷ dirs (f ∷ fs))
    chain_inside text n e = ((text, found_by (entries_at t f.dir) f.next (text, record { kind = Dir; name = n }) (sound.listed f.dir).distinct e), chain)

    inside_left : (text : Text) (n : Name) (b : ℕ) → 0 < b → held_by Dir (items_below b t (to text) n) ++ left b t (to text) (onward ∷ fs) ≡ left (b - 1) t (to text) (whole_dir n (to text) ∷ onward ∷ fs)
    unfolding items_below
    inside_left text n zero pos = absurd (omega arith)
    inside_left text n (suc c) pos =
        let less : suc c - 1 ≡ c = omega arith in
        let whole : take (length (to text)) (to text) ≡ to text = take-length (to text) in
        ap (λ p. flat_map (at_entry (items_below c t) p) (entries_at t n) ++ left (suc c) t (to text) (onward ∷ fs)) (sym whole)
        ∙ ap (λ b. left b t (to text) (whole_dir n (to text) ∷ onward ∷ fs)) (sym less)

    -- an entry, and what is then to be found
    pub one_left : (text : Text) (kind : EntryKind) (n : Name) → slice_get (entries_at t f.dir) f.next ≡ Some (text, record { kind = kind; name = n }) → rest_of t path (f ∷ fs) ≡ here text kind n ∷ rest_of t (to text) (inside kind (whole_dir n (to text)) ++ onward ∷ fs)
    one_left text File n e = first text File n (len t.dirs - length (f ∷ fs)) e
    one_left text Dir n e =
        let b = len t.dirs - length (f ∷ fs) in
        let k = few t forest sound.rooted (n ∷ dirs (f ∷ fs)) (chain_inside text n e) in
        let m : length (dirs (f ∷ fs)) ≡ length (f ∷ fs) = simp length-map in
        let pos : 0 < len t.dirs - length (f ∷ fs) = omega arith in
        let less : len t.dirs - length (f ∷ fs) - 1 ≡ len t.dirs - length (whole_dir n (to text) ∷ onward ∷ fs) = omega arith in
        first text Dir n b e
        ∙ ap (λ is. here text Dir n ∷ is) (inside_left text n b pos ∙ ap (λ c. left c t (to text) (whole_dir n (to text) ∷ onward ∷ fs)) less)

    chain_one : (text : Text) (kind : EntryKind) (n : Name) → slice_get (entries_at t f.dir) f.next ≡ Some (text, record { kind = kind; name = n }) → IsChain t (dirs (inside kind (whole_dir n (to text)) ++ onward ∷ fs))
    chain_one text File n e = chain
    chain_one text Dir n e = chain_inside text n e

    nested_one : (text : Text) (kind : EntryKind) (n : Name) → AreNested (length (to text)) (inside kind (whole_dir n (to text)) ++ onward ∷ fs)
    nested_one text File n = (longer t path f nested.0 text, nested.1)
    nested_one text Dir n = (omega arith, (longer t path f nested.0 text, nested.1))

    known_one : (text : Text) (kind : EntryKind) (n : Name) → AreKnown path (f ∷ fs) → AreKnown (to text) (inside kind (whole_dir n (to text)) ++ onward ∷ fs)
    known_one text kind n known = by kind
      where
        old : AreKnown (to text) (onward ∷ fs)
        old = (known.0 ∙ ap (λ p. capped (length (escape p))) (sym (same_front t path f nested.0 text)), known_same t path f nested.0 text f.cut fs nested.1 (omega arith) known.1)

        by : (k : EntryKind) → AreKnown (to text) (inside k (whole_dir n (to text)) ++ onward ∷ fs)
        by File = old
        by Dir = (ap (λ p. capped (length (escape p))) (sym (take-length (to text))), old)

  -- ---- the walk

  pub begin : IsWalking t [] (whole_dir t.root [] ∷ []) []
  unfolding items_below
  begin = record { chain = (refl, tt); nested = (omega arith, tt); known = (refl, tt); last = refl; measured = tt; items = all }
    where
      all : rest_of t [] (whole_dir t.root [] ∷ []) ≡ items_of t
      all =
          let k = levels (whole_dir t.root []) [] (refl, tt) in
          let up : suc (len t.dirs - 1) ≡ len t.dirs = omega arith in
          append-nil (flat_map (at_entry (items_below (len t.dirs - 1) t) []) (entries_at t t.root))
          ∙ ap (λ n. items_below n t [] t.root) up

  pub pass : (fs : List Found) (f : Todo) (todo : List Todo) (path : Text) → IsWalking t fs (f ∷ todo) path → slice_get (entries_at t f.dir) f.next ≡ None → IsWalking t fs todo path
  pass fs f todo path w e =
      record {
        chain = w.chain.1;
        nested = shorter todo (w.nested.1) (w.nested.0);
        known = w.known.1;
        last = w.last;
        measured = w.measured;
        items = ap (λ is. items_from [] fs ++ is) (sym (none_left path f todo w.chain e)) ∙ w.items;
      }
    where
      shorter : (gs : List Todo) → AreNested f.cut gs → f.cut ≤ length path → AreNested (length path) gs
      shorter [] n le = tt
      shorter (g ∷ gs) n le = (let k = n.0 in omega arith, n.1)

  pub step : (fs : List Found) (f : Todo) (todo : List Todo) (path text : Text) (kind : EntryKind) (n : Name) → IsWalking t fs (f ∷ todo) path → slice_get (entries_at t f.dir) f.next ≡ Some (text, record { kind = kind; name = n })
      → IsWalking t (fs ++ found_at f (under (take f.cut path) text) text kind n ∷ []) (inside kind (whole_dir n (under (take f.cut path) text)) ++ (record f { next = f.next + 1 }) ∷ todo) (under (take f.cut path) text)
  step fs f todo path text kind n w e =
      let g = found_at f (under (take f.cut path) text) text kind n in
      let at : path_of (path_after [] fs) g ≡ under (take f.cut path) text = ap (λ p. under (take f.cut p) text) w.last in
      record {
        chain = chain_one path f todo w.chain w.nested text kind n e;
        nested = nested_one path f todo w.chain w.nested text kind n;
        known = known_one path f todo w.chain w.nested text kind n w.known;
        last = path_last [] fs g ∙ at;
        measured = measured_last [] fs g w.measured (ap (λ p. capped (length (escape p))) (sym at));
        items =
            ap (λ is. is ++ rest_of t (under (take f.cut path) text) (inside kind (whole_dir n (under (take f.cut path) text)) ++ (record f { next = f.next + 1 }) ∷ todo)) (items_last [] fs g)
            ∙ append_assoc (items_from [] fs) _ _
            ∙ ap (λ p. items_from [] fs ++ record { path = p; target = record { kind = kind; name = n } } ∷ rest_of t (under (take f.cut path) text) (inside kind (whole_dir n (under (take f.cut path) text)) ++ (record f { next = f.next + 1 }) ∷ todo)) at
            ∙ ap (λ is. items_from [] fs ++ is) (sym (one_left path f todo w.chain w.nested text kind n e))
            ∙ w.items;
      }

  pub end : (fs : List Found) (path : Text) → IsWalking t fs [] path → items_from [] fs ≡ items_of t
  end fs path w = sym (append-nil (items_from [] fs)) ∙ w.items

  -- ---- what is to be done gets less

  pub pass_less : (fs : List Found) (f : Todo) (todo : List Todo) (path : Text) → IsWalking t fs (f ∷ todo) path → slice_get (entries_at t f.dir) f.next ≡ None → size t path todo < size t path (f ∷ todo)
  pass_less fs f todo path w e = let k = ap length (none_left path f todo w.chain e) in omega arith

  pub step_less : (fs : List Found) (f : Todo) (todo : List Todo) (path text : Text) (kind : EntryKind) (n : Name) → IsWalking t fs (f ∷ todo) path → slice_get (entries_at t f.dir) f.next ≡ Some (text, record { kind = kind; name = n })
      → size t (under (take f.cut path) text) (inside kind (whole_dir n (under (take f.cut path) text)) ++ (record f { next = f.next + 1 }) ∷ todo) < size t path (f ∷ todo)
  step_less fs f todo path text File n w e = let k = ap length (one_left path f todo w.chain w.nested text File n e) in omega arith
  step_less fs f todo path text Dir n w e = let k = ap length (one_left path f todo w.chain w.nested text Dir n e) in omega arith

-- ---- the lists in code

-- what is to be done, the top first
abbrev pub down : List Frame → List Todo
down stack = reverse (map seen stack)

-- the top is taken off
top : (stack below : List Frame) (f : Frame) → stack ≡ below ++ f ∷ [] → down stack ≡ seen f ∷ down below
top stack below f e = ap down e ∙ ap reverse (map-append seen below (f ∷ [])) ∙ reverse-append (map seen below) (seen f ∷ [])

-- what comes after an entry is put on
put_on : (stack below : List Frame) (f : Todo) (kind : EntryKind) (g : Todo) → map seen stack ≡ map seen below ++ todo_after f kind g → down stack ≡ inside kind g ++ (record f { next = f.next + 1 }) ∷ down below
put_on stack below f kind g e = ap reverse e ∙ reverse-append (map seen below) (todo_after f kind g) ∙ by kind
  where
    by : (k : EntryKind) → reverse (todo_after f k g) ++ down below ≡ inside k g ++ (record f { next = f.next + 1 }) ∷ down below
    by File = refl
    by Dir = refl

module _ (t : Tree) (sound : IsSound t) (forest : IsForest t) where
  -- what is known of a frame that was taken off
  pub top_known : (steps : List Step) (stack below : List Frame) (f : Frame) (path : Text) → stack ≡ below ++ f ∷ [] → IsWalking t (map found steps) (down stack) path → (f.cut ≤ length path) × (f.bytes ≡ capped (length (escape (take f.cut path))))
  top_known steps stack below f path e w =
      let v = subst (λ fs. IsWalking t (map found steps) fs path) (top stack below f e) w in
      (v.nested.0, v.known.0)

  pub next_small : (dir : Name) (n : ℕ) (e : Text × Target) → Some e ≡ slice_get (entries_at t dir) n → n < 4096
  next_small dir n e is = let a = slice_get_within (entries_at t dir) n e (sym is) in let b = (sound.listed dir).few in omega arith

  pub on_pass : (steps : List Step) (stack below : List Frame) (f : Frame) (path : Text) → stack ≡ below ++ f ∷ [] → IsWalking t (map found steps) (down stack) path → None ≡ slice_get (entries_at t f.dir.now) f.next
      → IsWalking t (map found steps) (down below) path × (size t path (down below) < size t path (down stack))
  on_pass steps stack below f path e w is =
      let v = subst (λ fs. IsWalking t (map found steps) fs path) (top stack below f e) w in (
        pass t sound forest (map found steps) (seen f) (down below) path v (sym is),
        subst (λ fs. size t path (down below) < size t path fs) (sym (top stack below f e)) (pass_less t sound forest (map found steps) (seen f) (down below) path v (sym is)),
      )

  pub on_step : (steps more : List Step) (stack below after : List Frame) (f : Frame) (path on text : Text) (kind : EntryKind) (n : Name) → stack ≡ below ++ f ∷ [] → IsWalking t (map found steps) (down stack) path
      → Some (entry_of text kind n) ≡ slice_get (entries_at t f.dir.now) f.next → on ≡ under (take f.cut path) text
      → map found more ≡ map found steps ++ found_at (seen f) (under (take f.cut path) text) text kind n ∷ []
      → map seen after ≡ map seen below ++ todo_after (seen f) kind (whole_dir n (under (take f.cut path) text))
      → IsWalking t (map found more) (down after) on × (size t on (down after) < size t path (down stack))
  on_step steps more stack below after f path on text kind n e w is path_is steps_are after_is =
      let to = under (take f.cut path) text in
      let v = subst (λ fs. IsWalking t (map found steps) fs path) (top stack below f e) w in
      let last = put_on after below (seen f) kind (whole_dir n to) after_is in
      let walks = step t sound forest (map found steps) (seen f) (down below) path text kind n v (sym is) in
      let less = step_less t sound forest (map found steps) (seen f) (down below) path text kind n v (sym is) in (
        subst (λ p. IsWalking t (map found more) (down after) p) (sym path_is) (subst (λ fs. IsWalking t (map found more) fs to) (sym last) (subst (λ fs. IsWalking t fs (inside kind (whole_dir n to) ++ (record (seen f) { next = f.next + 1 }) ∷ down below) to) (sym steps_are) walks)),
        subst (λ p. size t p (down after) < size t path (down stack)) (sym path_is) (subst (λ fs. size t to fs < size t path (down stack)) (sym last) (subst (λ fs. size t to (inside kind (whole_dir n to) ++ (record (seen f) { next = f.next + 1 }) ∷ down below) < size t path fs) (sym (top stack below f e)) less)),
      )

  pub on_begin : (steps : List Step) (old stack : List Frame) (path : Text) (f : Frame) → steps ≡ [] → path ≡ [] → old ≡ [] → stack ≡ old ++ f ∷ [] → seen f ≡ whole_dir t.root [] → IsWalking t (map found steps) (down stack) path
  on_begin steps old stack path f no_steps no_path none e is =
      let first : stack ≡ [] ++ f ∷ [] = e ∙ ap (λ fs. fs ++ f ∷ []) none in
      subst (λ (xs : List Step). IsWalking t (map found xs) (down stack) path) (sym no_steps)
      (subst (λ p. IsWalking t [] (down stack) p) (sym no_path) (subst (λ fs. IsWalking t [] fs []) (sym (top stack [] f first ∙ ap (λ (g : Todo). g ∷ []) is)) (begin t sound forest)))

  pub on_end : (steps : List Step) (stack : List Frame) (path : Text) → stack ≡ [] → IsWalking t (map found steps) (down stack) path → IsWalk t steps
  on_end steps stack path e w =
      let v = subst (λ (xs : List Frame). IsWalking t (map found steps) (down xs) path) e w in
      record { items = end t sound forest (map found steps) path v; measured = v.measured }

-- ---- pushes

pub found_one : (old new : List Step) (s : Step) (f : Found) → new ≡ old ++ s ∷ [] → found s ≡ f → map found new ≡ map found old ++ f ∷ []
found_one old new s f e is = ap (map found) e ∙ map-append found old (s ∷ []) ∙ ap (λ (g : Found). map found old ++ g ∷ []) is

pub any_way : {X E P : Type 0} (r : Result X E) → P → OnOk r P
any_way (Ok x) p = p
any_way (Err e) p = tt

pub cut_long : (n : ℕ) (path : Text) → n ≤ length path → length (take n path) ≡ n
cut_long n path le = let e = length-take n path in omega arith
