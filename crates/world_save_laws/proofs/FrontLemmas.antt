-- What was made so far stands in the whole, and one thing more does.
use Rattle.std.proofs.Common.{◌≡◌, ◌⊎◌, inl, inr, ℕ, Bool, true, false, cond, List, [], ◌∷◌, ◌++◌, Option, Some, None, is_some, refl, sym, ap, subst, ◌∙◌}
use Rattle.std.specs.Prelude.{IsTrue}
use Rattle.std.specs.Option.{option_or, unwrap_or}
use Rattle.std.specs.Map.{lookup}
use Rattle.std.specs.FinMap.{get}
use Rattle.std.specs.Cmp.Lexicographic.{nat_list_eq_equiv, same_text}
use Rattle.std.proofs.lemmas.Bool.{false_from_ne_true}
use Rattle.lam_value.specs.declared.names.Name.{Name}
use Rattle.lam_value_homes.proofs.Rows.{lookup-append}
use Rattle.labelled_files.specs.declared.directory.Target.{Target}
use Rattle.labelled_files.specs.declared.directory.EntryKind.{EntryKind}
use Rattle.labelled_files.specs.declared.directory.EntryKind.TheVariants.{File, Dir}
use Rattle.labelled_files.specs.Entries.{Entries, text_eq}
use Rattle.labelled_files.specs.Trees.{Tree, lives_as, entries_at, target_at}
use Rattle.world_forest.specs.Forest.{LeadsTo, IsForest}
use Rattle.world_save_laws.specs.Reached.{IsReached}
use Rattle.world_save_laws.proofs.PutLemmas.{by_same, nothing, IsMade, IsPut}

-- ---- parts of the whole

-- an entry leads to the name
pub record IsHeld (u : Tree) (n : Name) : Type 0 where
  pub dir : Name
  pub text : List ℕ
  pub target : Target
  pub leads : LeadsTo u dir text target
  pub is : target.name ≡ n

-- What is there stands in the whole: its entries are entries of the whole, it stands in one of them if it is not the
-- root, and the whole's root reaches it.
pub record IsFront (t u : Tree) : Type 0 where
  pub root : u.root ≡ t.root
  pub counts : u.counts ≡ t.counts
  pub within : (d : Name) (q : List ℕ) (x : Target) → LeadsTo u d q x → LeadsTo t d q x
  pub lives : (d : Name) (q : List ℕ) (x : Target) → LeadsTo u d q x → IsTrue (lives_as x.kind u x.name)
  pub held : (kind : EntryKind) (n : Name) → IsTrue (lives_as kind u n) → (n ≡ t.root) ⊎ IsHeld u n
  pub reached : (kind : EntryKind) (n : Name) → IsTrue (lives_as kind u n) → IsReached t kind n

-- What is made in a directory: entries go on, what was there stays but for the directory's own entries, and what is new
-- is as in the whole.
pub record Grows (t : Tree) (dir : Name) (u v : Tree) : Type 0 where
  pub entries : (d : Name) (q : List ℕ) (x : Target) → LeadsTo u d q x → LeadsTo v d q x
  pub dirs : (d : Name) → IsTrue (lives_as Dir u d) → (d ≡ dir → ⊥) → get v.dirs d ≡ get u.dirs d
  pub files : (f : Name) → IsTrue (lives_as File u f) → get v.files f ≡ get u.files f
  pub new_dirs : (d : Name) → IsTrue (lives_as Dir v d) → lives_as Dir u d ≡ false → get v.dirs d ≡ get t.dirs d
  pub new_files : (f : Name) → IsTrue (lives_as File v f) → lives_as File u f ≡ false → get v.files f ≡ get t.files f

-- what an entry of the whole leads to does not live before the entry is made
pub fresh : (t u : Tree) → IsForest t → IsFront t u → (dir : Name) (text : List ℕ) (x : Target) → LeadsTo t dir text x → target_at u dir text ≡ None → (kind : EntryKind) → lives_as kind u x.name ≡ false
fresh t u forest front dir text x leads none kind = false_from_ne_true (lives_as kind u x.name) (λ e. never (front.held kind x.name e))
  where
    never : (x.name ≡ t.root) ⊎ IsHeld u x.name → ⊥
    never (inl e) = forest.root dir text x leads e
    never (inr h) =
        let one = forest.once h.dir dir h.text text h.target x (front.within h.dir h.text h.target h.leads) leads h.is in
        let no : Some h.target ≡ None = sym h.leads ∙ (λ i. target_at u (one.0 i) (one.1 i)) ∙ none in
        cc

-- ---- one thing more

-- what is found among entries and one more
found_last : (es : Entries) (text : List ℕ) (x : Target) (q : List ℕ) (y : Target) → lookup (text_eq q) (es ++ (text, x) ∷ []) ≡ Some y → (lookup (text_eq q) es ≡ Some y) ⊎ ((q ≡ text) × (y ≡ x))
found_last es text x q y h = by (lookup (text_eq q) es) refl (text_eq q text) refl (sym (lookup-append (text_eq q) es ((text, x) ∷ [])) ∙ h)
  where
    by : (o : Option Target) → lookup (text_eq q) es ≡ o → (b : Bool) → text_eq q text ≡ b → option_or o (cond b (Some x) None) ≡ Some y → (lookup (text_eq q) es ≡ Some y) ⊎ ((q ≡ text) × (y ≡ x))
    by (Some z) e b f k = inl (e ∙ k)
    by None e true f k = let is : y ≡ x = cc in inr (same_text q text (sym f), is)
    by None e false f k = absurd cc

-- what was found is still found
found_still : (es fs : Entries) (q : List ℕ) (y : Target) → lookup (text_eq q) es ≡ Some y → lookup (text_eq q) (es ++ fs) ≡ Some y
found_still es fs q y h = lookup-append (text_eq q) es fs ∙ ap (λ o. option_or o (lookup (text_eq q) fs)) h

found_new : (es : Entries) (text : List ℕ) (x : Target) → lookup (text_eq text) es ≡ None → lookup (text_eq text) (es ++ (text, x) ∷ []) ≡ Some x
found_new es text x h =
    lookup-append (text_eq text) es ((text, x) ∷ []) ∙ ap (λ o. option_or o (cond (text_eq text text) (Some x) None)) h ∙ ap (λ b. cond b (Some x) None) (nat_list_eq_equiv.refl text)

-- a name that does not live as the one kind
other_kind : (v : Tree) (n : Name) (bytes : List ℕ) (kind k : EntryKind) → IsMade v n bytes kind → IsTrue (lives_as k v n) → k ≡ kind
other_kind v n bytes File File made h = refl
other_kind v n bytes Dir Dir made h = refl
other_kind v n bytes kind k made h = let no : true ≡ false = sym h ∙ ap is_some made.1 in cc

made_lives : (v : Tree) (n : Name) (bytes : List ℕ) (kind : EntryKind) → IsMade v n bytes kind → IsTrue (lives_as kind v n)
made_lives v n bytes File made = ap is_some made.0
made_lives v n bytes Dir made = ap is_some made.0

made_empty : (v : Tree) (n : Name) (bytes : List ℕ) (kind : EntryKind) → IsMade v n bytes kind → entries_at v n ≡ []
made_empty v n bytes File made = ap (λ (o : Option Entries). unwrap_or o []) made.1
made_empty v n bytes Dir made = ap (λ (o : Option Entries). unwrap_or o []) made.0

module _ (t u v : Tree) (dir n : Name) (text : List ℕ) (kind : EntryKind) (bytes : List ℕ) (front : IsFront t u) (put : IsPut u v dir n text kind bytes) (live : IsTrue (lives_as Dir u dir)) (free : (k : EntryKind) → lives_as k u n ≡ false) (leads : LeadsTo t dir text (record { kind = kind; name = n })) (new : target_at u dir text ≡ None) where
  abbrev target : Target
  target = record { kind = kind; name = n }

  none_before : entries_at u n ≡ []
  none_before = ap (λ (o : Option Entries). unwrap_or o []) (nothing (get u.dirs n) (free Dir))

  entries_here : entries_at v dir ≡ entries_at u dir ++ (text, target) ∷ []
  entries_here = ap (λ (o : Option Entries). unwrap_or o []) put.here

  old_or_new : (d : Name) (q : List ℕ) (y : Target) → LeadsTo v d q y → LeadsTo u d q y ⊎ ((d ≡ dir) × ((q ≡ text) × (y ≡ target)))
  old_or_new d q y h = by_same d dir here elsewhere
    where
      here : d ≡ dir → LeadsTo u d q y ⊎ ((d ≡ dir) × ((q ≡ text) × (y ≡ target)))
      here is = by (found_last (entries_at u dir) text target q y (ap (lookup (text_eq q)) (sym (ap (entries_at v) is ∙ entries_here)) ∙ h))
        where
          by : (lookup (text_eq q) (entries_at u dir) ≡ Some y) ⊎ ((q ≡ text) × (y ≡ target)) → LeadsTo u d q y ⊎ ((d ≡ dir) × ((q ≡ text) × (y ≡ target)))
          by (inl k) = inl (ap (λ e. target_at u e q) is ∙ k)
          by (inr k) = inr (is, k)

      elsewhere : (d ≡ dir → ⊥) → LeadsTo u d q y ⊎ ((d ≡ dir) × ((q ≡ text) × (y ≡ target)))
      elsewhere other = by_same d n made old
        where
          made : d ≡ n → LeadsTo u d q y ⊎ ((d ≡ dir) × ((q ≡ text) × (y ≡ target)))
          made is = let no : None ≡ Some y = sym (ap (lookup (text_eq q)) (ap (entries_at v) is ∙ made_empty v n bytes kind put.made)) ∙ h in absurd cc

          old : (d ≡ n → ⊥) → LeadsTo u d q y ⊎ ((d ≡ dir) × ((q ≡ text) × (y ≡ target)))
          old newer = inl (ap (λ (o : Option Entries). lookup (text_eq q) (unwrap_or o [])) (sym (put.dirs d other newer)) ∙ h)

  pub keeps : (d : Name) (q : List ℕ) (y : Target) → LeadsTo u d q y → LeadsTo v d q y
  keeps d q y h = by_same d dir here elsewhere
    where
      here : d ≡ dir → LeadsTo v d q y
      here is = ap (lookup (text_eq q)) (ap (entries_at v) is ∙ entries_here) ∙ found_still (entries_at u dir) ((text, target) ∷ []) q y (ap (λ e. target_at u e q) (sym is) ∙ h)

      elsewhere : (d ≡ dir → ⊥) → LeadsTo v d q y
      elsewhere other = by_same d n made old
        where
          made : d ≡ n → LeadsTo v d q y
          made is = let no : None ≡ Some y = sym (ap (lookup (text_eq q)) (ap (entries_at u) is ∙ none_before)) ∙ h in absurd cc

          old : (d ≡ n → ⊥) → LeadsTo v d q y
          old newer = ap (λ (o : Option Entries). lookup (text_eq q) (unwrap_or o [])) (put.dirs d other newer) ∙ h

  pub new_entry : LeadsTo v dir text target
  new_entry = ap (lookup (text_eq text)) entries_here ∙ found_new (entries_at u dir) text target new

  -- ---- what lives

  lives_back : (k : EntryKind) (m : Name) → (m ≡ n → ⊥) → IsTrue (lives_as k v m) → IsTrue (lives_as k u m)
  lives_back File m other h = sym (ap is_some (put.files m other)) ∙ h
  lives_back Dir m other h = by_same m dir (λ is. ap (lives_as Dir u) is ∙ live) (λ apart. sym (ap is_some (put.dirs m apart other)) ∙ h)

  pub lives_on : (k : EntryKind) (m : Name) → IsTrue (lives_as k u m) → IsTrue (lives_as k v m)
  lives_on k m h = by_same m n (λ is. let no : true ≡ false = sym h ∙ ap (lives_as k u) is ∙ free k in absurd cc) (on k h)
    where
      on : (k : EntryKind) → IsTrue (lives_as k u m) → (m ≡ n → ⊥) → IsTrue (lives_as k v m)
      on File h other = ap is_some (put.files m other) ∙ h
      on Dir h other = by_same m dir (λ is. ap (λ e. is_some (get v.dirs e)) is ∙ ap is_some put.here) (λ apart. ap is_some (put.dirs m apart other) ∙ h)

  new_lives : IsTrue (lives_as kind v n)
  new_lives = made_lives v n bytes kind put.made

  -- ---- still a part of the whole

  moved : (d : Name) (q : List ℕ) (y : Target) → (d ≡ dir) × ((q ≡ text) × (y ≡ target)) → LeadsTo t d q y
  moved d q y p = (λ i. target_at t (p.0 i) (p.1.0 i)) ∙ leads ∙ ap Some (sym p.1.1)

  within_next : (d : Name) (q : List ℕ) (y : Target) → LeadsTo u d q y ⊎ ((d ≡ dir) × ((q ≡ text) × (y ≡ target))) → LeadsTo t d q y
  within_next d q y (inl h) = front.within d q y h
  within_next d q y (inr p) = moved d q y p

  lives_next : (d : Name) (q : List ℕ) (y : Target) → LeadsTo u d q y ⊎ ((d ≡ dir) × ((q ≡ text) × (y ≡ target))) → IsTrue (lives_as y.kind v y.name)
  lives_next d q y (inl h) = lives_on y.kind y.name (front.lives d q y h)
  lives_next d q y (inr p) = ap (λ (z : Target). lives_as z.kind v z.name) p.1.1 ∙ new_lives

  held_on : (m : Name) → (m ≡ t.root) ⊎ IsHeld u m → (m ≡ t.root) ⊎ IsHeld v m
  held_on m (inl e) = inl e
  held_on m (inr h) = inr (record { dir = h.dir; text = h.text; target = h.target; leads = keeps h.dir h.text h.target h.leads; is = h.is })

  reached_new : IsReached t kind n
  reached_new = let above = front.reached Dir dir live in (text ∷ above.0, (dir, (above.1, leads)))

  pub front_next : IsFront t v
  front_next =
      record {
        root = put.root ∙ front.root;
        counts = put.counts ∙ front.counts;
        within = λ d q y h. within_next d q y (old_or_new d q y h);
        lives = λ d q y h. lives_next d q y (old_or_new d q y h);
        held = λ k m h. by_same m n (λ is. inr (record { dir = dir; text = text; target = target; leads = new_entry; is = sym is })) (λ other. held_on m (front.held k m (lives_back k m other h)));
        reached = λ k m h. by_same m n (λ is. reached k m h is) (λ other. front.reached k m (lives_back k m other h));
      }
    where
      reached : (k : EntryKind) (m : Name) → IsTrue (lives_as k v m) → m ≡ n → IsReached t k m
      reached k m h is =
          let same = other_kind v n bytes kind k put.made (ap (lives_as k v) (sym is) ∙ h) in
          subst (λ (q : Name). IsReached t k q) (sym is) (subst (λ (j : EntryKind). IsReached t j n) (sym same) reached_new)

  -- ---- and has grown

  files_stay : (f : Name) → IsTrue (lives_as File u f) → get v.files f ≡ get u.files f
  files_stay f h = put.files f (λ is. let no : true ≡ false = sym h ∙ ap (lives_as File u) is ∙ free File in cc)

  pub dirs_stay : (d : Name) → IsTrue (lives_as Dir u d) → (d ≡ dir → ⊥) → get v.dirs d ≡ get u.dirs d
  dirs_stay d h other = put.dirs d other (λ is. let no : true ≡ false = sym h ∙ ap (lives_as Dir u) is ∙ free Dir in cc)

  -- what lives and did not is what was made
  pub is_new : (k : EntryKind) (m : Name) → IsTrue (lives_as k v m) → lives_as k u m ≡ false → m ≡ n
  is_new k m h before = by_same m n (λ is. is) (λ other. let no : true ≡ false = sym (lives_back k m other h) ∙ before in absurd cc)

  -- where it is as in the whole
  pub grown : (IsTrue (lives_as Dir v n) → get v.dirs n ≡ get t.dirs n) → (IsTrue (lives_as File v n) → get v.files n ≡ get t.files n) → Grows t dir u v
  grown as_dir as_file =
      record {
        entries = keeps;
        dirs = dirs_stay;
        files = files_stay;
        new_dirs = λ d h before. let is = is_new Dir d h before in ap (get v.dirs) is ∙ as_dir (ap (lives_as Dir v) (sym is) ∙ h) ∙ ap (get t.dirs) (sym is);
        new_files = λ f h before. let is = is_new File f h before in ap (get v.files) is ∙ as_file (ap (lives_as File v) (sym is) ∙ h) ∙ ap (get t.files) (sym is);
      }
