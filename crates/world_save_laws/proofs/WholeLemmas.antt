-- All items together make what the root reaches, and nothing else.
use Rattle.std.proofs.Common.{◌≡◌, inl, ◌+◌, ◌≤◌, ℕ, zero, suc, true, false, List, [], ◌∷◌, ◌++◌, map, length, Option, Some, None, Ok, is_some, refl, sym, ap, subst, ◌∙◌, arith}
use Rattle.std.specs.Prelude.{IsTrue}
use Rattle.std.specs.Option.{unwrap_or}
use Rattle.std.specs.Map.{lookup}
use Rattle.std.specs.FinMap.{get, empty, len, get-empty}
use Rattle.std.proofs.lemmas.Bool.{false_from_ne_true}
use Rattle.flow_labels.specs.TwoLists.{Text}
use Rattle.lam_value.specs.declared.names.Name.{Name}
use Rattle.lam_value.specs.Names.{name_cmp}
use Rattle.labelled_files.specs.declared.directory.Target.{Target}
use Rattle.labelled_files.specs.declared.directory.EntryKind.{EntryKind}
use Rattle.labelled_files.specs.declared.directory.EntryKind.TheVariants.{File, Dir}
use Rattle.labelled_files.specs.Entries.{Entries, text_eq}
use Rattle.labelled_files.specs.Trees.{Tree, lives_as, entries_at}
use Rattle.world_doc_terms.specs.Numbered.{root_counted}
use Rattle.world_doc_terms.specs.SavedItems.{with_saved_items}
use Rattle.world_forest.specs.Forest.{LeadsTo}
use Rattle.world_save_items.proofs.Chains.{IsChain, few}
use Rattle.world_save_terms.specs.Items.{items_of}
use Rattle.world_save_laws.specs.Reached.{IsAt, HoldsReached}
use Rattle.world_save_laws.specs.TreeLaws.{saved, IsWhole, TreesAreMadeAgain}
use Rattle.world_save_laws.proofs.PutLemmas.{by_same, there, put_there, put_apart}
use Rattle.world_save_laws.proofs.FrontLemmas.{IsFront}
use Rattle.world_save_laws.proofs.MadeLemmas.{Makes, IsReady, IsDeep, dirs_made}

module _ (t : Tree) (whole : IsWhole t) where
  -- ---- there are no more levels than directories

  deep : (k : ℕ) (d : Name) (ds : List Name) → IsChain t (d ∷ ds) → suc (len t.dirs) ≤ length (d ∷ ds) + k → IsDeep t whole k d
  deep zero d ds chain enough = let n = few t whole.forest whole.sound.rooted (d ∷ ds) chain in absurd (omega arith)
  deep (suc k) d ds chain enough = λ text n leads. deep k n (d ∷ ds) ((text, leads), chain) (omega arith)

  -- ---- the root alone

  abbrev begun : Tree
  begun = root_counted t.counts

  root_is : begun.root ≡ t.root
  root_is = sym whole.root

  nothing_in : (d : Name) → entries_at begun d ≡ []
  nothing_in d =
      by_same d begun.root
      (λ is. ap (λ e. unwrap_or (get begun.dirs e) []) is ∙ ap (λ (o : Option Entries). unwrap_or o []) (put_there empty begun.root []))
      (λ apart. ap (λ (o : Option Entries). unwrap_or o []) (put_apart empty begun.root [] d apart ∙ get-empty name_cmp d))

  no_entry : (d : Name) (q : Text) (x : Target) → LeadsTo begun d q x → ⊥
  no_entry d q x h = let no : None ≡ Some x = sym (ap (lookup (text_eq q)) (nothing_in d)) ∙ h in cc

  only_root : (kind : EntryKind) (n : Name) → IsTrue (lives_as kind begun n) → (kind ≡ Dir) × (n ≡ t.root)
  only_root File n h = let no : false ≡ true = sym (ap is_some (get-empty name_cmp n)) ∙ h in absurd cc
  only_root Dir n h =
      by_same n begun.root (λ is. (refl, is ∙ root_is))
      (λ apart. let no : false ≡ true = sym (ap is_some (put_apart empty begun.root [] n apart ∙ get-empty name_cmp n)) ∙ h in absurd cc)

  begun_front : IsFront t begun
  begun_front =
      record {
        root = root_is;
        counts = refl;
        within = λ d q x h. absurd (no_entry d q x h);
        lives = λ d q x h. absurd (no_entry d q x h);
        held = λ kind n h. inl (only_root kind n h).1;
        reached = λ kind n h. ([], only_root kind n h);
      }

  root_lives : IsTrue (lives_as Dir begun t.root)
  root_lives = ap (λ n. is_some (get begun.dirs n)) (sym root_is) ∙ ap is_some (put_there empty begun.root [])

  -- ---- what was made

  module _ (u : Tree) (m : Makes t begun u (items_of t) t.root (entries_at t t.root)) where
    same_dirs : (d : Name) → IsTrue (lives_as Dir u d) → get u.dirs d ≡ get t.dirs d
    same_dirs d h = by_same d t.root here elsewhere
      where
        here : d ≡ t.root → get u.dirs d ≡ get t.dirs d
        here is =
            ap (get u.dirs) is ∙ m.whole ∙ ap (λ (es : Entries). Some (es ++ entries_at t t.root)) (nothing_in t.root)
            ∙ sym (there (get t.dirs t.root) [] whole.sound.rooted) ∙ ap (get t.dirs) (sym is)

        elsewhere : (d ≡ t.root → ⊥) → get u.dirs d ≡ get t.dirs d
        elsewhere other = m.grows.new_dirs d h (false_from_ne_true (lives_as Dir begun d) (λ e. other (only_root Dir d e).1))

    same_files : (f : Name) → IsTrue (lives_as File u f) → get u.files f ≡ get t.files f
    same_files f h = m.grows.new_files f h (ap is_some (get-empty name_cmp f))

    -- what the root reaches was made
    made : (way : List Text) (kind : EntryKind) (n : Name) → IsAt t way kind n → IsTrue (lives_as kind u n)
    made [] kind n at = subst (λ (k : EntryKind). IsTrue (lives_as k u n)) (sym at.0) (ap (lives_as Dir u) at.1 ∙ ap is_some m.whole)
    made (text ∷ way) kind n at =
        let above = made way Dir at.0 at.1.0 in
        let leads : LeadsTo u at.0 text (record { kind = kind; name = n }) = ap (λ (o : Option Entries). lookup (text_eq text) (unwrap_or o [])) (same_dirs at.0 above) ∙ at.1.1 in
        m.front.lives at.0 text (record { kind = kind; name = n }) leads

    holds : HoldsReached t u
    holds =
        record {
          root = m.front.root;
          counts = m.front.counts;
          dirs = λ n r. same_dirs n (made r.0 Dir n r.1);
          files = λ n r. same_files n (made r.0 File n r.1);
          only = m.front.reached;
        }

  made_again : (u : Tree) × ((with_saved_items 0 (root_counted t.counts) (map (saved t) (items_of t)) ≡ Ok u) × HoldsReached t u)
  made_again =
      let ready : IsReady t begun [] t.root = record { front = begun_front; live = root_lives; leads = refl } in
      let made = dirs_made t whole (len t.dirs) begun [] t.root ready (nothing_in t.root) (deep (len t.dirs) t.root [] (refl, tt) (omega arith)) in
      (made.0, (made.1.made 0, holds made.0 made.1))

pub trees_again : TreesAreMadeAgain
trees_again t whole = made_again t whole
