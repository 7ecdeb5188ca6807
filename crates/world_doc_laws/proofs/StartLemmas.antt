-- The world of a document is valid, and its threads stand at entries.
use Rattle.std.proofs.Common.{◌≡◌, ◌≤◌, List, [], Option, Some, None, Ok, refl, subst, arith}
use Rattle.std.specs.Prelude.{IfOk, codes}
use Rattle.std.specs.List.{AllByRecursion}
use Rattle.serde_json.specs.Data.{Data, Members}
use Rattle.serde_json.specs.Find.{as_object}
use Rattle.labelled_files.specs.Trees.{Tree}
use Rattle.labelled_pipes.specs.Queues.{Queues}
use Rattle.lam_bytecode.specs.Codes.{CodeTree}
use Rattle.thread_steps.specs.Threads.{Thread}
use Rattle.lam_machine_terms.specs.Worlds.{World}
use Rattle.lam_machine_terms.specs.Limits.{most_tags}
use Rattle.lam_machine_terms.specs.Valid.{AreKnown, AreSoundStores, StoresLive}
use Rattle.lam_machine_means.proofs.GrowLemmas.{Grows, with_list}
use Rattle.lam_machine_means.specs.Steps.{IsStart}
use Rattle.lam_machine_means.proofs.StoreLemmas.{all_on, all_lives_on, moved_live}
use Rattle.lam_machine_means.proofs.StartLemmas.{valid_starts}
use Rattle.world_doc_terms.specs.Breaks.{Reading, ◌>>=◌, formed}
use Rattle.world_doc_terms.specs.Tags.{FirstTags, tags_in}
use Rattle.world_doc_terms.specs.declared.version.Version.{Version}
use Rattle.world_doc_terms.specs.declared.version.Version.TheVariants.{One, Two, Three}
use Rattle.world_doc_terms.specs.Stores.{Pipes, pipes_in}
use Rattle.world_doc_terms.specs.Entries.{threads_in}
use Rattle.world_doc_terms.specs.Start.{version_in, files_in, world_in, world_or}
use Rattle.world_doc_laws.proofs.StandLemmas.{stand}
use Rattle.world_doc_laws.specs.Starts.{IsStartOf, WorldsStart, TextsStart}
use Rattle.world_doc_laws.proofs.ReadLemmas.{after, onward, AreFew, tags_few}
use Rattle.world_doc_laws.proofs.StoreLemmas.{staged, public_known, IsGood, GoodTree, tree_good, GoodPipes, pipes_good}
use Rattle.world_doc_laws.proofs.NumberedLemmas.{numbered_good}
use Rattle.world_doc_laws.proofs.EntryLemmas.{AllStart, threads_good}

-- what makes a world with a few threads valid
record IsReady (code : CodeTree) (w : World) : Type 0 where
  sound : AreSoundStores w
  live : StoresLive w
  public : AreKnown w w.public
  tags : w.next_tag ≤ most_tags
  starts : AllByRecursion (IsStart code w) w.threads

module _ (code : CodeTree) where
  abbrev Ready : World → Type 0
  Ready w = IsReady code w

  module _ (tags : FirstTags) (t : Tree) (q : Queues) (ths : List Thread) where
    abbrev before : World
    before = staged tags t q []

    abbrev begun : World
    begun = staged tags t q ths

    grows : Grows before begun
    grows = with_list before ths (omega arith)

    still_starts : (th : Thread) → IsStart code before th → IsStart code begun th
    still_starts th s = record { unit = s.unit; args = s.args; caps = s.caps; it = s.it; lives = all_lives_on before begun grows s.args s.lives; known = s.known }

    begins : AreFew tags → IsGood before → AllByRecursion (IsStart code before) ths → Ready begun
    begins few g s =
        let sound = g.sound in
        record {
          sound = record { heap = sound.heap; monitors = sound.monitors; files = sound.files; root = sound.root; pipes = sound.pipes };
          live = moved_live before begun grows g.live refl refl refl refl;
          public = public_known tags few;
          tags = few.few;
          starts = all_on still_starts ths s;
        }

  module _ (ms : Members) where
    abbrev whole : FirstTags → Tree → Pipes → List Thread → Reading World
    whole tags t p ths = Ok (staged tags t p.queues ths)

    abbrev with_pipes : FirstTags → Tree → Pipes → Reading World
    with_pipes tags t p = threads_in code tags.names p.called ms >>= λ ths. whole tags t p ths

    abbrev with_tree : FirstTags → Tree → Reading World
    with_tree tags t = pipes_in tags.names ms >>= λ p. with_pipes tags t p

    abbrev with_names : Version → FirstTags → Reading World
    with_names version tags = files_in version tags.names ms >>= λ t. with_tree tags t

    pipes_start : (tags : FirstTags) → AreFew tags → (t : Tree) (p : Pipes) → GoodPipes tags t p → IfOk (with_pipes tags t p) Ready
    pipes_start tags few t p g =
        onward (threads_in code tags.names p.called ms) (AllStart tags t p.queues p.called g.live code) (threads_good tags t p.queues p.called g.live code ms) (λ ths. whole tags t p ths) Ready
        (λ ths s. begins tags t p.queues ths few g.good s)

    tree_starts : (tags : FirstTags) → AreFew tags → (t : Tree) → GoodTree code tags t → IfOk (with_tree tags t) Ready
    tree_starts tags few t g = onward (pipes_in tags.names ms) (GoodPipes tags t) (pipes_good code tags t g ms) (λ p. with_pipes tags t p) Ready (pipes_start tags few t)

    files_good : (version : Version) (tags : FirstTags) → AreFew tags → IfOk (files_in version tags.names ms) (GoodTree code tags)
    files_good One tags few = tree_good code tags few ms
    files_good Two tags few = tree_good code tags few ms
    files_good Three tags few = numbered_good code tags few ms

    names_start : (version : Version) (tags : FirstTags) → AreFew tags → IfOk (with_names version tags) Ready
    names_start version tags few = onward (files_in version tags.names ms) (GoodTree code tags) (files_good version tags few) (λ t. with_tree tags t) Ready (tree_starts tags few)

    members_start : IfOk (world_in code ms) Ready
    members_start =
        after (version_in ms) (λ version. tags_in version ms >>= λ tags. with_names version tags) Ready
        (λ version. onward (tags_in version ms) AreFew (tags_few version ms) (λ tags. with_names version tags) Ready (names_start version))

  ready : (d : Data) → IfOk (formed (codes "version") (as_object d) >>= λ ms. world_in code ms) Ready
  ready d = after (formed (codes "version") (as_object d)) (λ ms. world_in code ms) Ready members_start

  pub start : WorldsStart code
  start d w e =
      let r : Ready w = subst (λ (r : Reading World). IfOk r Ready) e (ready d) in
      let s = stand code d w e in
      let few = s.1.1 in
      record { valid = (valid_starts code).all w r.sound r.live r.public r.tags (omega arith) r.starts; entries = s.0; some = s.1.0; few = s.1.1 }

  reading : (o : Option Data) (w : World) → world_or o code ≡ Ok w → IsStartOf code w
  reading None w e = cc
  reading (Some d) w e = start d w e

  pub text_start : TextsStart code
  text_start text w e = search (reading, e)
