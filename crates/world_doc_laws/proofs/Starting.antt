-- A thread of a document's world just starts.
use Rattle.std.proofs.Common.{List, [], ◌∷◌, map, refl, subst}
use Rattle.std.specs.Prelude.{IsTrue}
use Rattle.lam_value.specs.declared.values.Value.{Value}
use Rattle.lam_value.specs.declared.values.Value.TheVariants.{Int, Bool as Truth, Bytes, Pipe, Tag}
use Rattle.lam_builtins.specs.Types.{int, bool, bytes, tag, pipe}
use Rattle.lam_bytecode.specs.Codes.{CodeTree}
use Rattle.thread_steps.specs.Threads.{Thread}
use Rattle.lam_resolve_tree.specs.Tree.{ResolvedType, ResolvedTree}
use Rattle.lam_meaning.specs.Scheme.{arg_kind}
use Rattle.lam_machine_means.specs.Typing.{Is, Are}
use Rattle.lam_machine_means.specs.Runs.{nothing_known, JustStarts, ThreadsStart}
use Rattle.lam_machine_means.proofs.Meaning.{runs_mean}
use Rattle.lam_machine_means.proofs.Sticking.{none_sticks}
use Rattle.world_doc_laws.specs.Entries.{IsIntFunction, EntriesAreFunctions}
use Rattle.world_doc_terms.specs.Entries.{fits}
use Rattle.world_doc_laws.specs.Standing.{AreArguments, StandsAtEntry}
use Rattle.world_doc_laws.proofs.Entering.{all_at}
use Rattle.world_doc_laws.proofs.StartLemmas.{text_start}
use Rattle.world_doc_laws.specs.Documents.{DocumentsRunAsMeant}

-- an argument of a parameter's kind is of its type
fit_is : (t : ResolvedType) (v : Value) → IsTrue (fits (arg_kind t) v) → Is nothing_known t v
fit_is int (Int n) h = refl
fit_is bool (Truth b) h = refl
fit_is bytes (Bytes bs) h = refl
fit_is tag (Tag n) h = refl
fit_is pipe (Pipe n) h = refl
fit_is t v h = absurd cc

fit_are : (ts : List ResolvedType) (vs : List Value) → AreArguments (map arg_kind ts) vs → Are nothing_known ts vs
fit_are [] [] h = tt
fit_are (t ∷ ts) (v ∷ vs) h = (fit_is t v h.0, fit_are ts vs h.1)
fit_are ts vs h = absurd h

entry_starts : (r : ResolvedTree) (code : CodeTree) → EntriesAreFunctions r code → (th : Thread) → StandsAtEntry code th → JustStarts r code th
entry_starts r code functions th s =
    let e = s.entry in
    let f : IsIntFunction r s.unit s.takes = functions s.unit e.it e.name s.takes e.there e.is in
    record {
      function = s.unit;
      args = s.args;
      caps = s.caps;
      it = s.it;
      starts = (f.declared, f.found, f.result, fit_are f.declared.params s.args (subst (λ ks. AreArguments ks s.args) f.kinds s.fitting));
    }

pub documents_mean : (r : ResolvedTree) (code : CodeTree) → DocumentsRunAsMeant r code
documents_mean r code acts_as functions is_code typed text w read turns =
    let s = text_start code text w read in
    let starts : ThreadsStart r code w = λ t th at. entry_starts r code functions th (all_at (StandsAtEntry code) w.threads s.entries t th at) in
    let none = none_sticks r code acts_as is_code typed w turns s.valid starts in
    record { each = λ u th at. runs_mean r code acts_as is_code typed w turns s.valid starts u th at; start = none.0; later = none.1 }
