use Rattle.std.proofs.Common.{sym, subst}
use Rattle.std.specs.Prelude.{IfOk}
use Rattle.std.proofs.lemmas.Str.{IsUtf8-from_is_utf8}
use Rattle.serde_json.specs.Data.{Data}
use Rattle.world_save_terms.specs.Compact.{IsCompact}
use Rattle.world_save_files.specs.Saved.{HasKept, CanBeKept}
use Rattle.world_save_files.proofs.kept.kept_texts.Goals as goal

pub texts_in-requires : goal.texts_in-requires
texts_in-requires c = subst CanBeKept (sym c.in-Ok.ensures.cases.0) c.requires

pub unreachable-requires : goal.unreachable-requires
unreachable-requires c = c.in-Err.ensures.cases.0 (IsUtf8-from_is_utf8 c.args.old.now c.requires.2.utf8)

pub returns : goal.returns
returns c =
    subst (λ t. IfOk c.texts_in.result (λ k. (pipes threads : Data) → HasKept t pipes threads → IsCompact pipes k.pipes.items × IsCompact threads k.threads.items)) c.in-Ok.ensures.cases.0 c.texts_in.ensures
