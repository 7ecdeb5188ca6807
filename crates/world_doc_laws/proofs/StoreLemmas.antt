-- The stores of a document are sound at each step, and what stands in them lives.
use Rattle.std.proofs.Common.{◌≡◌, ℕ, suc, ◌<◌, Bool, true, false, List, [], ◌∷◌, ◌++◌, length, Option, Some, None, Ok, Err, refl, ap, arith}
use Rattle.std.specs.Prelude.{IfOk, is_some, nat_lt, codes, if◌then◌else◌}
use Rattle.std.specs.List.{AllByRecursion}
use Rattle.std.specs.FinMap.{empty}
use Rattle.std.proofs.lemmas.Bool.Decides.{nat_tests}
use Rattle.serde_json.specs.Data.{Items, no_items, item, Members}
use Rattle.serde_json.specs.Find.{get_member, as_str, as_array, as_object}
use Rattle.flow_labels.specs.declared.Label.{Label}
use Rattle.flow_labels.specs.TwoLists.{Text}
use Rattle.capabilities.specs.Kinds.{public_of}
use Rattle.lam_value.specs.declared.names.Name.{Name}
use Rattle.lam_value.specs.declared.values.Value.TheVariants.{Pipe}
use Rattle.lam_value.specs.Homes.{home_of, name_of, count_in}
use Rattle.labelled_heap.specs.Things.{no_things}
use Rattle.labelled_files.specs.declared.files.FileFault.{FileFault}
use Rattle.labelled_files.specs.Trees.{Tree, root_alone, first_fault, next_name, with_file, with_dir, with_more, appended}
use Rattle.labelled_files.proofs.SoundLemmas.{sound_file, sound_dir, sound_bytes}
use Rattle.labelled_files.proofs.MakeLemmas.{fine, new, room, free}
use Rattle.labelled_pipes.specs.Queues.{most_pipes, Queues, no_pipes, with_pipe}
use Rattle.labelled_pipes.proofs.QueueLemmas.{sound_pipe}
use Rattle.lam_bytecode.specs.Codes.{CodeTree}
use Rattle.thread_steps.specs.Threads.{Thread}
use Rattle.lam_machine_terms.specs.Worlds.{World}
use Rattle.lam_machine_terms.specs.Serves.{adds_file, adds_dir, appends, adds_pipe}
use Rattle.lam_machine_terms.specs.Valid.{AreBelow, Lives, AreSoundStores, StoresLive}
use Rattle.lam_machine_means.proofs.GrowLemmas.{lives_on, effect_grows}
use Rattle.lam_machine_means.proofs.StoreLemmas.{all_on, all_append, there_now, effect_live}
use Rattle.lam_machine_means.proofs.StartLemmas.{valid_starts}
use Rattle.world_doc_terms.specs.Breaks.{BadMember, Reading, ◌>>=◌, formed, member_as}
use Rattle.world_doc_terms.specs.Tags.{FirstTags, label_in}
use Rattle.world_doc_terms.specs.Stores.{Spot, spot_of, Content, a_dir, a_text, content_of, with_content, unless_full, with_item, with_items, tree_in, Pipes, new_name, with_called, with_pipe_item, with_pipes, pipes_in}
use Rattle.world_doc_laws.proofs.LabelLemmas.{IsBelow}
use Rattle.world_doc_laws.proofs.ReadLemmas.{after, onward, AreFew, public_below, label_known}

-- a world of a document, with these tags, files, pipes and threads
abbrev pub staged : FirstTags → Tree → Queues → List Thread → World
staged tags t q ths = record { names = tags.names; public = public_of tags.kinds; next_tag = length tags.names; heap = no_things; monitors = empty; files = t; pipes = q; threads = ths }

-- what is public in it is known
pub public_known : (tags : FirstTags) → AreFew tags → AreBelow (length tags.names) (public_of tags.kinds).plus × AreBelow (length tags.names) (public_of tags.kinds).minus
public_known tags h = let each = h.each in public_below tags.kinds (length tags.names) (omega arith)

pub record IsGood (w : World) : Type 0 where
  pub sound : AreSoundStores w
  pub live : StoresLive w

abbrev pub CalledLives : FirstTags → Tree → Queues → Text × Name → Type 0
CalledLives tags t q e = Lives (staged tags t q []) (Pipe e.1)

pub record GoodPipes (tags : FirstTags) (t : Tree) (p : Pipes) : Type 0 where
  pub good : IsGood (staged tags t p.queues [])
  pub live : AllByRecursion (CalledLives tags t p.queues) p.called

abbrev one_more : Pipes → Text → Label → Pipes
one_more p text l = record { queues = with_pipe p.queues (home_of l l); called = p.called ++ (text, name_of (home_of l l) (count_in p.queues.counts (home_of l l))) ∷ [] }

module _ (code : CodeTree) (tags : FirstTags) where
  abbrev names : List Text
  names = tags.names

  -- ---- the tree

  abbrev pub GoodTree : Tree → Type 0
  GoodTree t = IsGood (staged tags t no_pipes [])

  pub root_good : AreFew tags → GoodTree root_alone
  root_good h =
      let v = (valid_starts code).nothing_else names (public_of tags.kinds) (length names) [] (public_known tags h) h.few (omega arith) tt in
      record { sound = v.sound; live = v.live }

  module _ (t : Tree) (g : GoodTree t) where
    abbrev here : World
    here = staged tags t no_pipes []

    module _ (s : Spot) (l : Label) (below : IsBelow (length names) l) (clear : first_fault t s.dir s.text (home_of l l) ≡ None) where
      dir_good : GoodTree (with_dir t s.dir s.text (home_of l l))
      dir_good =
          let files = g.sound.files in
          let number = count_in t.counts (home_of l l) in
          record {
            sound = record {
              heap = g.sound.heap;
              monitors = g.sound.monitors;
              files = sound_dir t files s.dir s.text (home_of l l) (fine t s.dir s.text number clear) (new t s.dir s.text number clear) (room t s.dir s.text number clear files) (free t s.dir s.text number clear (files.within (home_of l l)));
              root = g.sound.root;
              pipes = g.sound.pipes;
            };
            live = effect_live code 0 here g.sound g.live (adds_dir s.dir s.text (home_of l l)) (below, below);
          }

      file_good : GoodTree (with_file t s.dir s.text (home_of l l))
      file_good =
          let files = g.sound.files in
          let number = count_in t.counts (home_of l l) in
          record {
            sound = record {
              heap = g.sound.heap;
              monitors = g.sound.monitors;
              files = sound_file t files s.dir s.text (home_of l l) (fine t s.dir s.text number clear) (new t s.dir s.text number clear) (room t s.dir s.text number clear files) (free t s.dir s.text number clear (files.within (home_of l l)));
              root = g.sound.root;
              pipes = g.sound.pipes;
            };
            live = effect_live code 0 here g.sound g.live (adds_file s.dir s.text (home_of l l)) (below, below);
          }

    pub more_good : (f : Name) (bytes : Text) → GoodTree (with_more t f bytes)
    more_good f bytes =
        record {
          sound = record { heap = g.sound.heap; monitors = g.sound.monitors; files = sound_bytes t g.sound.files f (appended bytes); root = g.sound.root; pipes = g.sound.pipes };
          live = effect_live code 0 here g.sound g.live (appends f bytes) tt;
        }

  content_good : (t : Tree) → GoodTree t → (s : Spot) (l : Label) → IsBelow (length names) l → first_fault t s.dir s.text (home_of l l) ≡ None → (content : Content) → GoodTree (with_content t s (home_of l l) content)
  content_good t g s l below clear a_dir = dir_good t g s l below clear
  content_good t g s l below clear (a_text bytes) =
      more_good (with_file t s.dir s.text (home_of l l)) (file_good t g s l below clear) (next_name t (home_of l l)) bytes

  module _ (index : ℕ) (t : Tree) (g : GoodTree t) (ms : Members) where
    abbrev put : Spot → Label → Content → Reading Tree
    put s l content = unless_full index (first_fault t s.dir s.text (home_of l l)) (with_content t s (home_of l l) content)

    abbrev labelled : Spot → Label → Reading Tree
    labelled s l = content_of (get_member (codes "dir") ms) (get_member (codes "text") ms) >>= λ content. put s l content

    abbrev placed : Spot → Reading Tree
    placed s = label_in names ms >>= λ l. labelled s l

    put_good : (s : Spot) (l : Label) → IsBelow (length names) l → (content : Content) → IfOk (put s l content) GoodTree
    put_good s l below content = by (first_fault t s.dir s.text (home_of l l)) refl
      where
        by : (o : Option FileFault) → first_fault t s.dir s.text (home_of l l) ≡ o → IfOk (unless_full index o (with_content t s (home_of l l) content)) GoodTree
        by None e = content_good t g s l below e content
        by (Some f) e = tt

    item_good : IfOk (with_item names index t ms) GoodTree
    item_good =
        after (member_as (codes "path") as_str ms) (λ path. spot_of index t path >>= λ s. placed s) GoodTree
        (λ path. after (spot_of index t path) (λ s. placed s) GoodTree
        (λ s. onward (label_in names ms) (IsBelow (length names)) (label_known names ms) (λ l. labelled s l) GoodTree
        (λ l below. after (content_of (get_member (codes "dir") ms) (get_member (codes "text") ms)) (λ content. put s l content) GoodTree (put_good s l below))))

  items_good : (index : ℕ) (t : Tree) → GoodTree t → (ds : Items) → IfOk (with_items names index t ds) GoodTree
  items_good index t g no_items = g
  items_good index t g (item d ds) =
      after (formed (codes "tree") (as_object d)) (λ ms. with_item names index t ms >>= λ u. with_items names (suc index) u ds) GoodTree
      (λ ms. onward (with_item names index t ms) GoodTree (item_good index t g ms) (λ u. with_items names (suc index) u ds) GoodTree (λ u h. items_good (suc index) u h ds))

  pub tree_good : AreFew tags → (ms : Members) → IfOk (tree_in names ms) GoodTree
  tree_good few ms = after (member_as (codes "tree") as_array ms) (λ items. with_items names 0 root_alone items) GoodTree (λ items. items_good 0 root_alone (root_good few) items)

  -- ---- pipes

  module _ (t : Tree) where
    abbrev with_lines : Queues → World
    with_lines q = staged tags t q []

    abbrev Good : Pipes → Type 0
    Good p = GoodPipes tags t p

    pipe_good : (p : Pipes) → Good p → (text : Text) (l : Label) → IsBelow (length names) l → count_in p.queues.counts (home_of l l) < most_pipes → Good (one_more p text l)
    pipe_good p g text l below less =
        let s = g.good.sound in
        let q = with_pipe p.queues (home_of l l) in
        let n = name_of (home_of l l) (count_in p.queues.counts (home_of l l)) in
        let grows = effect_grows code 0 (adds_pipe (home_of l l)) (with_lines p.queues) s in
        let old : AllByRecursion (CalledLives tags t q) p.called = all_on (λ (e : Text × Name) h. lives_on (with_lines p.queues) (with_lines q) grows (Pipe e.1) h) p.called g.live in
        record {
          good = record {
            sound = record { heap = s.heap; monitors = s.monitors; files = s.files; root = s.root; pipes = sound_pipe p.queues (home_of l l) s.pipes less };
            live = effect_live code 0 (with_lines p.queues) s g.good.live (adds_pipe (home_of l l)) (below, below);
          };
          live = all_append (CalledLives tags t q) p.called ((text, n) ∷ []) old (((below, below), ap is_some (there_now p.queues.waiting n [])), tt);
        }

    called_good : (p : Pipes) → Good p → (text : Text) (l : Label) → IsBelow (length names) l → IfOk (with_called p text (home_of l l)) Good
    called_good p g text l below = by (nat_lt (count_in p.queues.counts (home_of l l)) most_pipes) refl
      where
        by : (b : Bool) → nat_lt (count_in p.queues.counts (home_of l l)) most_pipes ≡ b → IfOk (if b then Ok (one_more p text l) else Err (BadMember (codes "pipes"))) Good
        by true e = pipe_good p g text l below (grind (arith, nat_tests))
        by false e = tt

    pipe_item_good : (p : Pipes) → Good p → (ms : Members) → IfOk (with_pipe_item names p ms) Good
    pipe_item_good p g ms =
        after (member_as (codes "name") (new_name p.called) ms) (λ text. label_in names ms >>= λ l. with_called p text (home_of l l)) Good
        (λ text. onward (label_in names ms) (IsBelow (length names)) (label_known names ms) (λ l. with_called p text (home_of l l)) Good (λ l below. called_good p g text l below))

    all_pipes_good : (p : Pipes) → Good p → (ds : Items) → IfOk (with_pipes names p ds) Good
    all_pipes_good p g no_items = g
    all_pipes_good p g (item d ds) =
        after (formed (codes "pipes") (as_object d)) (λ ms. with_pipe_item names p ms >>= λ more. with_pipes names more ds) Good
        (λ ms. onward (with_pipe_item names p ms) Good (pipe_item_good p g ms) (λ more. with_pipes names more ds) Good (λ more h. all_pipes_good more h ds))

    pub pipes_good : GoodTree t → (ms : Members) → IfOk (pipes_in names ms) Good
    pipes_good g ms =
        after (member_as (codes "pipes") as_array ms) (λ items. with_pipes names (record { queues = no_pipes; called = [] }) items) Good
        (λ items. all_pipes_good (record { queues = no_pipes; called = [] }) (record { good = g; live = tt }) items)
