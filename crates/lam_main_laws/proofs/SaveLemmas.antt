-- From what files hold to what `next` does.
use Rattle.std.proofs.Common.{◌≡◌, ◌<◌, ◌≤◌, List, [], ℕ, Option, Some, None, Result, Ok, length, sym, ap, subst, ◌∙◌, arith}
use Rattle.lam_io.specs.Outside.{Files}
use Rattle.lam_bytecode.specs.Codes.{CodeTree, IsCode}
use Rattle.thinned_code.specs.Facts.{StaysCode}
use Rattle.lam_machine_terms.specs.Worlds.{World}
use Rattle.lam_machine_terms.specs.Turns.{replay}
use Rattle.lam_machine_runs.specs.Runs.{RunsStop}
use Rattle.world_doc_terms.specs.Start.{start_of}
use Rattle.lam_main_words.specs.Words.{Text, Request, next}
use Rattle.lam_main_plan.specs.declared.Status.TheVariants.{Done}
use Rattle.lam_main_plan.specs.Refusals.{Plan}
use Rattle.lam_main_plan.specs.Reading.{IsRunCode, program_limit, world_limit}
use Rattle.lam_main_plan.specs.Replays.{RunFiles, ByWorld}
use Rattle.lam_main_plan.specs.Books.{WithRun}
use Rattle.lam_main_plan.specs.Saves.{saved, unnamed, untold, too_long, IsOfEnd, SavesRun, Saves}
use Rattle.lam_main_plan.specs.Plan.{IsPlan, IsPlanOf}
use Rattle.lam_main_plan.specs.Saved.{IsSavedText}
use Rattle.world_save_terms.specs.Document.{Spells}
use Rattle.world_save_files.proofs.DocumentLengths.{parts_once}
use Rattle.world_save_laws.specs.Longest.{longest, SpelledTextsAreBounded}
use Rattle.world_save_laws.specs.Runs.{IsSavedRun}
use Rattle.world_save_laws.proofs.ReadLemmas.{next_read}
use Rattle.world_save_laws.proofs.RunLemmas.{starts_agree}
use Rattle.lam_main_laws.specs.Calls.{HoldRun}
use Rattle.lam_main_laws.specs.Saves.{AsksNext, CanBeSaved, HasFewBytes, SavesAreTold, NextWorldsAreRead, WritesNext, NextStartsAgree}
use Rattle.lam_main_laws.proofs.PlanLemmas.{of_bytes, of_code, of_world}
use Rattle.lam_main_laws.proofs.PairLemmas.{of_run}
use Rattle.lam_main_laws.proofs.ReplayLemmas.{never_stops}
use Rattle.lam_main_laws.proofs.Meaning.{run_code}

pub save_planned : (ws : List Text) (files : Files) (code : CodeTree) (start : World) (turns : List ℕ) (plan : Plan) → RunsStop code → (a : AsksNext ws files code start turns) → IsPlan ws files plan → IsOfEnd a.out code a.holds.starts.bytes start turns plan
save_planned ws files code start turns plan law a is =
    let run : RunFiles = record { world = a.world; book = a.book } in
    let bytes : Text = a.holds.compiled.bytes in
    let old : Text = a.holds.starts.bytes in
    let OfStart : Text → World → Plan → Type 0 = λ o s. WithRun files a.book code s (IsOfEnd a.out code o s) in
    let planned : IsPlanOf (Ok (next a.program a.world a.book a.out)) files plan = subst (λ (request : Result Request ℕ). IsPlanOf request files plan) a.asks is in
    of_run files code plan a.book start (IsOfEnd a.out code old start) turns a.holds.reads (never_stops code law turns start a.holds.ready)
    (of_world (OfStart old) (start_of old code) start plan a.holds.starts.follows
    (of_bytes (files a.world) a.world world_limit (λ bs. start_of bs code ≡ Ok start) (λ o. ByWorld (OfStart o) (start_of o code)) plan a.holds.starts
    (of_code (SavesRun files run a.out) bytes code plan a.holds.compiled.follows
    (of_bytes (files a.program) a.program program_limit (λ bs. IsRunCode bs code) (Saves files run a.out) plan a.holds.compiled planned))))

pub told : ((code : CodeTree) → RunsStop code) → (ws : List Text) (files : Files) → SavesAreTold ws files
told stops ws files code start turns plan a is = save_planned ws files code start turns plan (stops code) a is

some_item : {a : ℕ} → ◌≡◌ {A = Option ℕ} (Some a) None → ⊥
some_item e = cc

too_many : (most bytes : ℕ) → most < bytes → bytes ≤ most → ⊥
too_many most bytes h k = omega (arith, h, k)

-- what can be saved is
pub save_done : (out old : Text) (code : CodeTree) (start : World) (turns : List ℕ) (plan : Plan) → CanBeSaved old code start turns → IsOfEnd out code old start turns plan → plan.status ≡ Done
save_done out old code start turns plan can (saved text items h e) = ap (λ (it : Plan). it.status) e
save_done out old code start turns plan can (unnamed tag h e) = absurd (can.have.0 tag h.is)
save_done out old code start turns plan can (untold item h e) = absurd (some_item (sym h.1 ∙ can.have.1))
save_done out old code start turns plan can (too_long bytes h e) = absurd (too_many 16777216 (length h.text) h.long (can.fits h.text h.text_is))

at_most : (bytes few most : ℕ) → bytes ≤ few → few ≤ most → bytes ≤ most
at_most bytes few most h k = omega (arith, h, k)

-- a document of few bytes is not too long
pub few_saved : SpelledTextsAreBounded → (old : Text) (code : CodeTree) (start : World) (turns : List ℕ) → HasFewBytes old code start turns → CanBeSaved old code start turns
few_saved bounded old code start turns f =
    record {
      have = f.have;
      fits = λ text x.
          let same = parts_once start.names start.public (replay code turns start).files old x.parts f.parts x.parts_are f.parts_are in
          at_most (length text) (longest f.parts) 16777216 (bounded f.parts text (subst (λ p. Spells p text) same x.spells)) f.few;
    }

-- ---- what is written is read

abbrev text_in : Option (Text × Text) → Text
text_in None = []
text_in (Some x) = x.1

some_text : (out : Text) (a b : Text) → ◌≡◌ {A = Option (Text × Text)} (Some (out, a)) (Some (out, b)) → a ≡ b
some_text out a b e = ap text_in e

no_text : (x : Text × Text) → ◌≡◌ {A = Option (Text × Text)} None (Some x) → ⊥
no_text x e = cc

-- a text that is written is one that is saved of the files at the end
abbrev IsOfItems : Text → World → World → Text → Type 0
IsOfItems old start end text = (items : ℕ) × IsSavedText start.names start.public end.files old text items

written_text : (out old : Text) (code : CodeTree) (start : World) (turns : List ℕ) (plan : Plan) (text : Text) → IsOfEnd out code old start turns plan → plan.writes ≡ Some (out, text) → IsOfItems old start (replay code turns start) text
written_text out old code start turns plan text (saved found items h e) w =
    (items, subst (λ (x : Text). IsSavedText start.names start.public (replay code turns start).files old x items) (some_text out found text (sym (ap (λ (it : Plan). it.writes) e) ∙ w)) h)
written_text out old code start turns plan text (unnamed tag h e) w = absurd (no_text (out, text) (sym (ap (λ (it : Plan). it.writes) e) ∙ w))
written_text out old code start turns plan text (untold item h e) w = absurd (no_text (out, text) (sym (ap (λ (it : Plan). it.writes) e) ∙ w))
written_text out old code start turns plan text (too_long bytes h e) w = absurd (no_text (out, text) (sym (ap (λ (it : Plan). it.writes) e) ∙ w))

module _ (stops : (code : CodeTree) → RunsStop code) (stays : StaysCode) where
  its_code : (files : Files) (program world book : Text) (code : CodeTree) (start : World) (turns : List ℕ) → HoldRun files program world book code start turns → IsCode code
  its_code files program world book code start turns h = run_code stays h.compiled.bytes code h.compiled.follows

  its_text : (ws : List Text) (files : Files) (code : CodeTree) (start : World) (turns : List ℕ) (plan : Plan) (text : Text) (a : AsksNext ws files code start turns) → IsPlan ws files plan → plan.writes ≡ Some (a.out, text)
      → IsOfItems a.holds.starts.bytes start (replay code turns start) text
  its_text ws files code start turns plan text a is w = written_text a.out a.holds.starts.bytes code start turns plan text (save_planned ws files code start turns plan (stops code) a is) w

  pub worlds_read : (ws : List Text) (files : Files) → NextWorldsAreRead ws files
  worlds_read ws files code start turns plan text a is w =
      let t = its_text ws files code start turns plan text a is w in
      next_read code (its_code files a.program a.world a.book code start turns a.holds) a.holds.starts.bytes text t.0 start turns a.holds.starts.follows t.1

  saved_run : (ws : List Text) (files : Files) (code : CodeTree) (start : World) (turns : List ℕ) (text : Text) → WritesNext ws files code start turns text → IsSavedRun code start turns text
  saved_run ws files code start turns text w =
      let a = w.asks in
      let t = its_text ws files code start turns w.plan text a w.planned w.writes in
      record { old = a.holds.starts.bytes; starts = a.holds.starts.follows; run = a.holds.ready; items = t.0; saved = t.1 }

  pub worlds_agree : (ws ws' : List Text) (files files' : Files) → NextStartsAgree ws ws' files files'
  worlds_agree ws ws' files files' code o s s' turns turns' text text' w w' agree agendas named named' v v' e e' =
      let a = w.asks in
      starts_agree code o (its_code files a.program a.world a.book code s turns a.holds) s s' turns turns' text text' (saved_run ws files code s turns text w) (saved_run ws' files' code s' turns' text' w') agree agendas named named' v v' e e'
