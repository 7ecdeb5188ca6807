use Rattle.std.proofs.Common.{refl}
use Rattle.capabilities.specs.Changes.{joined}
use Rattle.lam_machine_rows.specs.Rows.{any_world, any_context, with_tags, with_heap, with_monitors, with_files, with_pipes, at_label, acting_by, at_depth}
use Rattle.lam_machine_rows.proofs.PartLemmas.{moved, moved_ok, one, each, tags_is, heap_is, monitors_is, files_is, pipes_is, label_is, caps_is, depth_is, released, among, joining}
use Rattle.lam_machine_rows.proofs.RowLemmas.{plain_as}
use Rattle.lam_machine_rows.proofs.rows.serve.Goals as goal

pub returns-in-Read : goal.returns-in-Read
returns-in-Read c =
    moved_ok _ _ _ _ _ _ _ c.in-Read.is (each _ _ _ _ _ (with_heap c.args.stores.now.heap) (at_label c.label-p.result.now) _
    (λ w k h. (heap_is _ _ _ _ _ w k h, label_is _ _ _ _ _ w k h _ c.label-p.ensures))
    c.read.ensures)

pub returns-in-Write : goal.returns-in-Write
returns-in-Write c =
    moved_ok _ _ _ _ _ _ _ c.in-Write.is (each _ _ _ _ _ any_world (at_label c.label-p.result.now) _
    (λ w k h. (refl, label_is _ _ _ _ _ w k h _ c.label-p.ensures))
    c.write.ensures)

pub returns-in-New : goal.returns-in-New
returns-in-New c =
    moved_ok _ _ _ _ _ _ _ c.in-New.is (each _ _ _ _ _ (with_heap c.args.stores.now.heap) (at_label c.label-p.result.now) _
    (λ w k h. (heap_is _ _ _ _ _ w k h, label_is _ _ _ _ _ w k h _ c.label-p.ensures))
    c.make_thing.ensures)

pub returns-in-CopyTo : goal.returns-in-CopyTo
returns-in-CopyTo c =
    moved_ok _ _ _ _ _ _ _ c.in-CopyTo.is (each _ _ _ _ _ (with_heap c.args.stores.now.heap) (acting_by c.label-p.result.now (joined c.caps-caps.result.now c.args.stores.now.public)) _
    (λ w k h. (heap_is _ _ _ _ _ w k h, caps_is _ _ _ _ _ w k h _ _ c.label-p.ensures c.caps-caps.ensures))
    c.copy_to.ensures)

pub returns-in-MonEnter : goal.returns-in-MonEnter
returns-in-MonEnter c =
    moved_ok _ _ _ _ _ _ _ c.in-MonEnter.is (each _ _ _ _ _ (with_monitors c.args.stores.now.monitors) (at_label c.label-p.result.now) _
    (λ w k h. (monitors_is _ _ _ _ _ w k h, label_is _ _ _ _ _ w k h _ c.label-p.ensures))
    c.enter_monitor.ensures)

pub returns-in-MonLeave : goal.returns-in-MonLeave
returns-in-MonLeave c =
    moved_ok _ _ _ _ _ _ _ c.in-MonLeave.is (each _ _ _ _ _ any_world any_context _
    (λ w k h. (refl, refl))
    c.leave_monitor.ensures)

pub returns-in-MakeFile : goal.returns-in-MakeFile
returns-in-MakeFile c =
    moved_ok _ _ _ _ _ _ _ c.in-MakeFile.is (each _ _ _ _ _ (with_files c.args.stores.now.files) (acting_by c.label-p.result.now (joined c.caps-caps.result.now c.args.stores.now.public)) _
    (λ w k h. (files_is _ _ _ _ _ w k h, caps_is _ _ _ _ _ w k h _ _ c.label-p.ensures c.caps-caps.ensures))
    c.make_file.ensures)

pub returns-in-MakeDir : goal.returns-in-MakeDir
returns-in-MakeDir c =
    moved_ok _ _ _ _ _ _ _ c.in-MakeDir.is (each _ _ _ _ _ (with_files c.args.stores.now.files) (acting_by c.label-p.result.now (joined c.caps-caps.result.now c.args.stores.now.public)) _
    (λ w k h. (files_is _ _ _ _ _ w k h, caps_is _ _ _ _ _ w k h _ _ c.label-p.ensures c.caps-caps.ensures))
    c.make_dir.ensures)

pub returns-in-OpenFile : goal.returns-in-OpenFile
returns-in-OpenFile c =
    moved_ok _ _ _ _ _ _ _ c.in-OpenFile.is (each _ _ _ _ _ (with_files c.args.stores.now.files) (at_label c.label-p.result.now) _
    (λ w k h. (files_is _ _ _ _ _ w k h, label_is _ _ _ _ _ w k h _ c.label-p.ensures))
    c.open_file.ensures)

pub returns-in-OpenDir : goal.returns-in-OpenDir
returns-in-OpenDir c =
    moved_ok _ _ _ _ _ _ _ c.in-OpenDir.is (each _ _ _ _ _ (with_files c.args.stores.now.files) (at_label c.label-p.result.now) _
    (λ w k h. (files_is _ _ _ _ _ w k h, label_is _ _ _ _ _ w k h _ c.label-p.ensures))
    c.open_dir.ensures)

pub returns-in-Remove : goal.returns-in-Remove
returns-in-Remove c =
    moved_ok _ _ _ _ _ _ _ c.in-Remove.is (each _ _ _ _ _ (with_files c.args.stores.now.files) (at_label c.label-p.result.now) _
    (λ w k h. (files_is _ _ _ _ _ w k h, label_is _ _ _ _ _ w k h _ c.label-p.ensures))
    c.remove.ensures)

pub returns-in-FileRead : goal.returns-in-FileRead
returns-in-FileRead c =
    moved_ok _ _ _ _ _ _ _ c.in-FileRead.is (each _ _ _ _ _ (with_files c.args.stores.now.files) (at_label c.label-p.result.now) _
    (λ w k h. (files_is _ _ _ _ _ w k h, label_is _ _ _ _ _ w k h _ c.label-p.ensures))
    c.read_file.ensures)

pub returns-in-Append : goal.returns-in-Append
returns-in-Append c =
    moved_ok _ _ _ _ _ _ _ c.in-Append.is (each _ _ _ _ _ any_world (at_label c.label-p.result.now) _
    (λ w k h. (refl, label_is _ _ _ _ _ w k h _ c.label-p.ensures))
    c.append.ensures)

pub returns-in-Cut : goal.returns-in-Cut
returns-in-Cut c =
    moved_ok _ _ _ _ _ _ _ c.in-Cut.is (each _ _ _ _ _ any_world (at_label c.label-p.result.now) _
    (λ w k h. (refl, label_is _ _ _ _ _ w k h _ c.label-p.ensures))
    c.cut.ensures)

pub returns-in-MakePipe : goal.returns-in-MakePipe
returns-in-MakePipe c =
    moved_ok _ _ _ _ _ _ _ c.in-MakePipe.is (each _ _ _ _ _ (with_pipes c.args.stores.now.pipes) (acting_by c.label-p.result.now (joined c.caps-caps.result.now c.args.stores.now.public)) _
    (λ w k h. (pipes_is _ _ _ _ _ w k h, caps_is _ _ _ _ _ w k h _ _ c.label-p.ensures c.caps-caps.ensures))
    c.make_pipe.ensures)

pub returns-in-Send : goal.returns-in-Send
returns-in-Send c =
    moved_ok _ _ _ _ _ _ _ c.in-Send.is (each _ _ _ _ _ any_world (at_label c.label-p.result.now) _
    (λ w k h. (refl, label_is _ _ _ _ _ w k h _ c.label-p.ensures))
    c.send.ensures)

pub returns-in-SendCaps : goal.returns-in-SendCaps
returns-in-SendCaps c =
    moved_ok _ _ _ _ _ _ _ c.in-SendCaps.is (each _ _ _ _ _ any_world (acting_by c.label-p.result.now (joined c.caps-caps.result.now c.args.stores.now.public)) _
    (λ w k h. (refl, caps_is _ _ _ _ _ w k h _ _ c.label-p.ensures c.caps-caps.ensures))
    c.send_caps.ensures)

pub returns-in-Receive : goal.returns-in-Receive
returns-in-Receive c =
    moved_ok _ _ _ _ _ _ _ c.in-Receive.is (each _ _ _ _ _ (with_pipes c.args.stores.now.pipes) (at_label c.label-p.result.now) _
    (λ w k h. (pipes_is _ _ _ _ _ w k h, label_is _ _ _ _ _ w k h _ c.label-p.ensures))
    c.receive.ensures)

pub returns-in-ReceiveCaps : goal.returns-in-ReceiveCaps
returns-in-ReceiveCaps c =
    moved_ok _ _ _ _ _ _ _ c.in-ReceiveCaps.is (each _ _ _ _ _ (with_pipes c.args.stores.now.pipes) (at_label c.label-p.result.now) _
    (λ w k h. (pipes_is _ _ _ _ _ w k h, label_is _ _ _ _ _ w k h _ c.label-p.ensures))
    c.receive_caps.ensures)

pub returns-in-Mint : goal.returns-in-Mint
returns-in-Mint c =
    moved _ _ _ _ _ _ _ c.in-Mint.is (one _ _ _ _ _ (with_tags c.args.stores.now.tags) (at_label c.label-p.result.now) _
    (λ w k h. (tags_is _ _ _ _ _ w k h, label_is _ _ _ _ _ w k h _ c.label-p.ensures))
    c.mint.ensures)

pub returns-in-FileLength : goal.returns-in-FileLength
returns-in-FileLength c =
    moved _ _ _ _ _ _ _ c.in-FileLength.is (one _ _ _ _ _ (with_files c.args.stores.now.files) (at_label c.label-p.result.now) _
    (λ w k h. (files_is _ _ _ _ _ w k h, label_is _ _ _ _ _ w k h _ c.label-p.ensures))
    c.file_length.ensures)

pub returns-in-Enter : goal.returns-in-Enter
returns-in-Enter c =
    moved _ _ _ _ _ _ _ c.in-Enter.is (one _ _ _ _ _ any_world (at_depth c.label-p.result.now (joined c.caps-caps.result.now c.args.stores.now.public) c.depth.result) _
    (λ w k h. (refl, depth_is _ _ _ _ _ w k h _ _ _ c.label-p.ensures c.caps-caps.ensures c.depth.ensures))
    (c.enter.ensures _ _))

pub returns-in-Leave : goal.returns-in-Leave
returns-in-Leave c =
    moved _ _ _ _ _ _ _ c.in-Leave.is (λ w k h. plain_as _ _ c.done.ensures)

pub returns-in-Barred : goal.returns-in-Barred
returns-in-Barred c =
    moved _ _ _ _ _ _ _ c.in-Barred.is (λ w k h. plain_as _ _ c.done-in-Barred.ensures)

pub returns-in-Say : goal.returns-in-Say
returns-in-Say c =
    moved _ _ _ _ _ _ _ c.in-Say.is (λ w k h. plain_as _ _ c.done-in-Say.ensures)

pub returns-in-Caught : goal.returns-in-Caught
returns-in-Caught c =
    moved_ok _ _ _ _ _ _ _ c.in-Caught.is (released _ _ _ _ _ _ _ c.held.ensures c.release.ensures)

pub returns-in-Suppressed : goal.returns-in-Suppressed
returns-in-Suppressed c =
    moved_ok _ _ _ _ _ _ _ c.in-Suppressed.is (released _ _ _ _ _ _ _ c.held-in-Suppressed.ensures c.release-in-Suppressed.ensures)

pub returns-in-End : goal.returns-in-End
returns-in-End c =
    moved_ok _ _ _ _ _ _ _ c.in-End.is (released _ _ _ _ _ _ _ c.held-in-End.ensures c.release-in-End.ensures)

pub returns-in-Spawn : goal.returns-in-Spawn
returns-in-Spawn c =
    moved_ok _ _ _ _ _ _ _ c.in-Spawn.is (among _ _ _ _ _ _ _ _ c.label-p.ensures c.caps-caps.ensures c.spawn.ensures)

pub returns-in-Join : goal.returns-in-Join
returns-in-Join c =
    moved_ok _ _ _ _ _ _ _ c.in-Join.is (joining _ _ _ _ _ _ _ c.label-p.ensures c.join.ensures)
