use Rattle.std.proofs.Common.{Option, Some, None, sym, subst, arith, []}
use Rattle.std.specs.Option.{option_map, unwrap_or}
use Rattle.std.specs.Map.{lookup}
use Rattle.std.specs.FinMap.{get}
use Rattle.lam_value.specs.Names.{name_eq}
use Rattle.labelled_files.specs.declared.contents.Contents.{Contents}
use Rattle.labelled_files.specs.Seen.{held}
use Rattle.labelled_files.specs.Trees.{AreBytes, Tree}
use Rattle.labelled_files.proofs.TreeLemmas.{got}
use Rattle.labelled_files.proofs.files.Files.hold_bytes.Goals as goal

held_bytes : (o : Option Contents) → AreBytes (unwrap_or (option_map held o) [])
held_bytes None i = omega arith
held_bytes (Some c) i = c.are_bytes i

pub returns : goal.returns
returns c n =
    subst (λ (t : Tree). AreBytes (unwrap_or (get t.files n) [])) c.self.view_is
    (subst (λ o. AreBytes (unwrap_or o [])) (sym (got held c.self.inside.files.entries n)) (held_bytes (lookup (name_eq n) c.self.inside.files.entries)))
