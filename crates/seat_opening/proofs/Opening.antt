-- What is opened of a code, and of a program, or why nothing is.
use Rattle.std.proofs.Common.{◌≡◌, Result, Ok, Err, IfOk, IfErr, sym, subst}
use Rattle.flow_labels.specs.TwoLists.{Text}
use Rattle.lam_bytecode.specs.Codes.{CodeTree}
use Rattle.lam_machine_terms.specs.Worlds.{World}
use Rattle.world_doc_terms.specs.Start.{start_of}
use Rattle.run_inputs.specs.declared.fault.InputFault.{InputFault}
use Rattle.run_inputs.specs.declared.fault.InputFault.TheVariants as input
use Rattle.run_inputs.specs.Inputs.{IsRunCode, NoCode, NoStart, NoRun}
use Rattle.seat_host.specs.Seats.{new_seat}
use Rattle.seat_opening.specs.declared.Opened.{Opened}
use Rattle.seat_opening.specs.Opens.{Shares, RunsFrom, IsOpened}

-- ---- what is opened

pub code_opened : (program document : Text) (code : CodeTree) → IsRunCode program code → (r : Result Opened InputFault) → IfOk r (RunsFrom code document) → IfOk r (IsOpened program document)
code_opened program document code is (Ok o) h = (code, is, h)
code_opened program document code is (Err fault) h = tt

pub start_opened : (code : CodeTree) (document : Text) (start : World) → start_of document code ≡ Ok start → (r : Result Opened InputFault) → IfOk r (Shares code start) → IfOk r (RunsFrom code document)
start_opened code document start is (Ok o) shares = (start, is, shares)
start_opened code document start is (Err fault) shares = tt

pub is_seated : (code : CodeTree) (start : World) (r : Result Opened InputFault) → IfOk r (Shares code start) → IfOk r (λ o. o.seat ≡ new_seat o.run)
is_seated code start (Ok o) shares = shares.seated
is_seated code start (Err fault) shares = tt

-- ---- why nothing is

-- a program without a code opens nothing
pub no_code_no_run : (program document : Text) (f : InputFault) → NoCode program f → NoRun program document f
no_code_no_run program document input.NotUtf8 h = h
no_code_no_run program document (input.Flawed flaw at) h = h
no_code_no_run program document (input.CodeTooLong unit) h = h
no_code_no_run program document (input.World breach) h = absurd h
no_code_no_run program document input.NoMemory h = tt

module _ (program document : Text) (code : CodeTree) (is : IsRunCode program code) where
  no_start_no_run : (f : InputFault) → NoStart code document f → NoRun program document f
  no_start_no_run input.NotUtf8 h = absurd h
  no_start_no_run (input.Flawed flaw at) h = absurd h
  no_start_no_run (input.CodeTooLong unit) h = absurd h
  no_start_no_run (input.World breach) h = (code, is, h)
  no_start_no_run input.NoMemory h = tt

  -- nor does a document without a start
  pub code_refused : (r : Result Opened InputFault) → IfErr r (NoStart code document) → IfErr r (NoRun program document)
  code_refused (Ok o) h = tt
  code_refused (Err fault) h = no_start_no_run fault h

-- want of memory says nothing of the document
pub without_memory : (code : CodeTree) (document : Text) (r : Result Opened InputFault) → IfErr r (λ fault. fault ≡ input.NoMemory) → IfErr r (NoStart code document)
without_memory code document (Ok o) h = tt
without_memory code document (Err fault) h = subst (NoStart code document) (sym h) tt
