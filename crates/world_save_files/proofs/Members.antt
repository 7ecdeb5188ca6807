-- The members that an older document has, in the value that was read of it.
use Rattle.std.proofs.Common.{◌≡◌, List, Option, Some, None, refl, sym, ap, ◌∙◌, subst}
use Rattle.std.specs.Prelude.{IsSome, codes}
use Rattle.serde_json.specs.Data.{Data}
use Rattle.serde_json.specs.Read.{read}
use Rattle.serde_json.specs.Find.{get}
use Rattle.flow_labels.specs.TwoLists.{Text}
use Rattle.world_save_files.specs.Saved.{HasKept}

pub some_is : (o : Option Data) (d : Data) → o ≡ Some d → IsSome o
some_is None d e = absurd cc
some_is (Some x) d e = refl

one : (d e : Data) → Some d ≡ Some e → d ≡ e
one d e is = cc

module _ (text : Text) (d : Data) (reads : read text ≡ Some d) (pipes threads : Data) (k : HasKept text pipes threads) where
  same : k.document ≡ d
  same = one k.document d (sym k.reads ∙ reads)

  pub its_pipes : get (codes "pipes") d ≡ Some pipes
  its_pipes = subst (λ e. get (codes "pipes") e ≡ Some pipes) same k.pipes_are

  pub its_threads : get (codes "threads") d ≡ Some threads
  its_threads = subst (λ e. get (codes "threads") e ≡ Some threads) same k.threads_are
