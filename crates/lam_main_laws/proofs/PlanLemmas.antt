-- From a plan of words and files to what they hold, and back.
use Rattle.std.proofs.Common.{◌≡◌, ℕ, List, Option, Some, None, Result, Ok, Err, refl, sym, subst, ◌∙◌}
use Rattle.flow_labels.specs.declared.Label.{Label}
use Rattle.flow_labels.specs.declared.texts.LabelFault.{LabelFault}
use Rattle.lam_front.specs.declared.fault.ProgramFault.{ProgramFault}
use Rattle.lam_front.specs.declared.fault.ProgramFault.TheVariants.{NotUtf8}
use Rattle.lam_front.proofs.Once.{fine_or_broken}
use Rattle.lam_bytecode.specs.Codes.{CodeTree}
use Rattle.thinned_code.specs.Thinned.{thinned}
use Rattle.lam_machine_terms.specs.Worlds.{World}
use Rattle.lam_machine_terms.specs.Turns.{Moment}
use Rattle.world_doc_terms.specs.Breaks.{Break, Reading, NotJson}
use Rattle.lam_machine_runs.specs.declared.How.{How}
use Rattle.lam_machine_runs.specs.declared.How.TheVariants as how
use Rattle.lam_main_words.specs.Words.{Text}
use Rattle.lam_main_plan.specs.Refusals.{Plan, no_program, no_world}
use Rattle.lam_main_plan.specs.Reading.{IsUnread, HasFile, WithFile, unread, of_file, IsCompiled, ByCode, Compiles, fine, broken, IsRunCode, Thins}
use Rattle.lam_main_plan.specs.Replays.{view_by, ByReader, ByWorld}
use Rattle.lam_main_plan.specs.Threads.{status_of}
use Rattle.lam_main_plan.proofs.PlanLemmas.{one_bytes, unread_or_of_file, one_made}
use Rattle.lam_main_laws.specs.Headline.{IsRunEnd}

-- ---- what is planned of what is there

module _ (found : Option Text) (name : Text) (limit : ℕ) (Is : Text → Type 0) (IsOf : Text → Plan → Type 0) (plan : Plan) where
  pub of_bytes : (h : HasFile found limit Is) → WithFile found name limit IsOf plan → IsOf h.bytes plan
  of_bytes h (unread u) = absurd (unread_or_of_file found name limit (λ bytes p. Is bytes) plan plan u h)
  of_bytes h (of_file k) = subst (λ (bytes : Text). IsOf bytes plan) (one_bytes (sym k.there ∙ h.there)) k.follows

of_compiled : (IsOf : CodeTree → Plan → Type 0) (bytes : Text) (code : CodeTree) (plan : Plan) → IsCompiled bytes (Ok code) → Compiles IsOf bytes plan → IsOf code plan
of_compiled IsOf bytes code plan c (fine made d h) = subst (λ (it : Result CodeTree ℕ). ByCode IsOf it plan) (one_made bytes made (Ok code) d c) h
of_compiled IsOf bytes code plan c (broken f b e) = absurd (fine_or_broken bytes c.program f c.fine b)

pub of_code : (IsOf : CodeTree → Plan → Type 0) (bytes : Text) (code : CodeTree) (plan : Plan) → IsRunCode bytes code → Thins IsOf bytes plan → IsOf code plan
of_code IsOf bytes code plan c h = subst (λ (it : CodeTree). IsOf it plan) (sym c.thin) (of_compiled (λ it. IsOf (thinned it)) bytes c.whole plan c.makes h)

pub of_world : (IsOf : World → Plan → Type 0) (read : Reading World) (start : World) (plan : Plan) → read ≡ Ok start → ByWorld IsOf read plan → IsOf start plan
of_world IsOf read start plan is h = subst (λ (it : Reading World). ByWorld IsOf it plan) is h

pub of_reader : (IsOf : (List Moment → Text) → Plan → Type 0) (read : Result (List Moment → Text) ℕ) (shown : List Moment → Text) (plan : Plan) → read ≡ Ok shown → ByReader IsOf read plan → IsOf shown plan
of_reader IsOf read shown plan is h = subst (λ (it : Result (List Moment → Text) ℕ). ByReader IsOf it plan) is h

-- ---- a refusal is no run's end

pub is_run_end : (ended : How) → IsRunEnd (status_of ended)
is_run_end how.Done = tt
is_run_end ended = tt

-- a plan that is another one ends as that does
ends_as : (plan it : Plan) → plan ≡ it → IsRunEnd plan.status → IsRunEnd it.status
ends_as plan it is end = subst (λ (p : Plan). IsRunEnd p.status) is end

no_unread : (found : Option Text) (name : Text) (limit : ℕ) (plan : Plan) → IsUnread found name limit plan → IsRunEnd plan.status → ⊥
no_unread None name limit plan h end = ends_as plan _ h end
no_unread (Some bytes) name limit plan h end = ends_as plan _ h.1 end

no_fault : (f : ProgramFault) → IsRunEnd (no_program f).status → ⊥
no_fault NotUtf8 end = end
no_fault f end = end

no_break : (breach : Break) → IsRunEnd (no_world breach).status → ⊥
no_break NotJson end = end
no_break breach end = end

-- ---- what is there, where a run's end is planned

module _ (found : Option Text) (name : Text) (limit : ℕ) (IsOf : Text → Plan → Type 0) (plan : Plan) where
  pub file_there : IsRunEnd plan.status → WithFile found name limit IsOf plan → HasFile found limit (λ bytes. IsOf bytes plan)
  file_there end (unread u) = absurd (no_unread found name limit plan u end)
  file_there end (of_file h) = h

-- there is code that is run, and the plan is that of it
pub record HasCode (IsOf : CodeTree → Plan → Type 0) (bytes : Text) (plan : Plan) : Type 0 where
  pub code : CodeTree
  pub compiled : IsRunCode bytes code
  pub follows : IsOf code plan

by_made : (IsOf : CodeTree → Plan → Type 0) (bytes : Text) (plan : Plan) (made : Result CodeTree ℕ) → IsRunEnd plan.status → IsCompiled bytes made → ByCode (λ it. IsOf (thinned it)) made plan → HasCode IsOf bytes plan
by_made IsOf bytes plan (Ok whole) end c h = record { code = thinned whole; compiled = record { whole = whole; makes = c; thin = refl }; follows = h }
by_made IsOf bytes plan (Err unit) end c h = absurd (ends_as plan _ h end)

pub code_there : (IsOf : CodeTree → Plan → Type 0) (bytes : Text) (plan : Plan) → IsRunEnd plan.status → Thins IsOf bytes plan → HasCode IsOf bytes plan
code_there IsOf bytes plan end (fine made c h) = by_made IsOf bytes plan made end c h
code_there IsOf bytes plan end (broken f b e) = absurd (no_fault f (ends_as plan (no_program f) e end))

-- there is a start, and the plan is that of it
pub record HasStart (IsOf : World → Plan → Type 0) (read : Reading World) (plan : Plan) : Type 0 where
  pub start : World
  pub starts : read ≡ Ok start
  pub follows : IsOf start plan

pub start_there : (IsOf : World → Plan → Type 0) (read : Reading World) (plan : Plan) → IsRunEnd plan.status → ByWorld IsOf read plan → HasStart IsOf read plan
start_there IsOf (Ok start) plan end h = record { start = start; starts = refl; follows = h }
start_there IsOf (Err breach) plan end h = absurd (no_break breach (ends_as plan (no_world breach) h end))

pub label_there : (IsOf : (List Moment → Text) → Plan → Type 0) (index : ℕ) (names : List Text) (read : Result Label LabelFault) (plan : Plan) → IsRunEnd plan.status → ByReader IsOf (view_by index names read) plan → (o : Label) × (read ≡ Ok o)
label_there IsOf index names (Ok o) plan end h = (o, refl)
label_there IsOf index names (Err fault) plan end h = absurd (ends_as plan _ h end)
