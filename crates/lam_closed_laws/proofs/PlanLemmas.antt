-- From a plan of words and files to the closed run that it is of, and back.
use Rattle.std.proofs.Common.{◌≡◌, ℕ, true, List, Result, Ok, Err, refl, sym, ap, subst, ◌∙◌}
use Rattle.flow_labels.specs.Flow.{flows, public_label}
use Rattle.flow_labels.specs.LabelText.{label_of}
use Rattle.flow_labels.specs.declared.Label.{Label}
use Rattle.flow_labels.specs.declared.texts.LabelFault.{LabelFault}
use Rattle.lam_io.specs.Outside.{Files}
use Rattle.lam_bytecode.specs.Codes.{CodeTree}
use Rattle.lam_machine_terms.specs.Worlds.{World}
use Rattle.lam_machine_terms.specs.Turns.{Moment}
use Rattle.audit_log.specs.Log.{view_lines}
use Rattle.world_doc_terms.specs.Start.{start_of}
use Rattle.closed_terms.specs.declared.End.{End}
use Rattle.closed_laws.specs.Once.{EndsOnce}
use Rattle.lam_main_words.specs.Words.{Text}
use Rattle.lam_main_plan.specs.declared.Status.{Status as LamStatus}
use Rattle.lam_main_plan.specs.declared.Status.TheVariants as lam
use Rattle.lam_main_plan.specs.Refusals.{Plan as LamPlan}
use Rattle.lam_main_plan.specs.Reading.{HasFile, WithFile, IsRunCode, program_limit, world_limit}
use Rattle.lam_main_plan.specs.Replays.{an_observer, view_by, read_by, ByWorld}
use Rattle.lam_main_plan.specs.Threads.{ThreadFiles}
use Rattle.lam_main_plan.specs.Books.{ByLabel}
use Rattle.lam_main_plan.proofs.ReadLemmas.{thin_program_then, by_this_reader}
use Rattle.lam_main_plan.proofs.BookLemmas.{start_then, label_then}
use Rattle.lam_main_laws.specs.Headline.{IsRunEnd as IsLamEnd}
use Rattle.lam_main_laws.proofs.PlanLemmas.{of_bytes, of_code, of_reader, file_there, code_there, start_there, label_there}
use Rattle.lam_main_laws.proofs.PairLemmas.{of_start}
use Rattle.lam_closed_words.specs.Words.{Request, run, request_of}
use Rattle.lam_closed_plan.specs.Outcome.{Plan, ended, ended_plan}
use Rattle.lam_closed_plan.specs.Closes.{Asked, base_word, shows_turns, IsOfClosed, ClosesOver, ClosesFrom, ClosesCode, Closes}
use Rattle.lam_closed_plan.specs.Plan.{IsPlan, IsPlanOf}
use Rattle.lam_closed_laws.specs.Asks.{AsksRun, IsRunEnd}
use Rattle.lam_closed_laws.specs.Headline.{IsInOrder, IsOfRun, RunIsPlanned, RunsAreComplete}
use Rattle.lam_closed_laws.proofs.Bases.{HasOpenBase, open_base, text_is_open}

-- ---- what is planned of what is there

of_label : (index : ℕ) (IsOf : Label → LamPlan → Type 0) (read : Result Label LabelFault) (b : Label) (p : LamPlan) → read ≡ Ok b → ByLabel index IsOf read p → IsOf b p
of_label index IsOf read b p reads is = subst (λ (r : Result Label LabelFault). ByLabel index IsOf r p) reads is

observed : (names : List Text) (label : Text) (o : Label) → label_of names label ≡ Ok o → read_by (an_observer 3 label) names ≡ Ok (view_lines names o)
observed names label o e = ap (view_by 3 names) e

module _ (files : Files) (run_files : ThreadFiles) (asked : Asked) (code : CodeTree) (start : World) (b : Label) (shown : List Moment → Text) (e : End) (p : LamPlan) where
  closed_planned : HasFile (files run_files.world) world_limit (λ bytes. start_of bytes code ≡ Ok start) → read_by asked.reader start.names ≡ Ok shown → label_of start.names asked.base ≡ Ok b → ClosesCode files run_files asked e code p → IsOfClosed code start b asked.turns run_files.out shown e p
  closed_planned starts eyes opens is =
      of_label base_word (λ x. IsOfClosed code start x asked.turns run_files.out shown e) (label_of start.names asked.base) b p opens
      (of_reader (ClosesOver run_files.out asked e code start) (read_by asked.reader start.names) shown p eyes
      (of_start files code p run_files.world (ClosesFrom run_files.out asked e code) start starts is))

  closed_then : HasFile (files run_files.world) world_limit (λ bytes. start_of bytes code ≡ Ok start) → read_by asked.reader start.names ≡ Ok shown → label_of start.names asked.base ≡ Ok b → IsOfClosed code start b asked.turns run_files.out shown e p → ClosesCode files run_files asked e code p
  closed_then starts eyes opens is =
      start_then files run_files.world code (ClosesFrom run_files.out asked e code) p start starts
      (by_this_reader (ClosesOver run_files.out asked e code start) (read_by asked.reader start.names) shown p eyes
      (label_then base_word (λ x. IsOfClosed code start x asked.turns run_files.out shown e) p (label_of start.names asked.base) b opens is))

module _ (ws : List Text) (files : Files) (code : CodeTree) (start : World) (o b : Label) (n : ℕ) (out : Text) (r : AsksRun ws files code start o b n out) where
  abbrev run_files : ThreadFiles
  run_files = record { world = r.world; out = out }

  abbrev asked : Asked
  asked = record { reader = an_observer 3 r.label; base = r.base; turns = n }

  abbrev shown : List Moment → Text
  shown = view_lines start.names o

  eyes : read_by asked.reader start.names ≡ Ok shown
  eyes = observed start.names r.label o r.observes

  pub asks_planned : (plan : Plan) → IsPlan ws files plan → IsOfRun code start o b n out plan
  asks_planned plan is =
      let planned : IsPlanOf (Ok (run r.program r.world r.label out r.base n)) files plan = subst (λ (request : Result Request ℕ). IsPlanOf request files plan) r.asks is in
      let e : End = planned.0 in
      let so = planned.1 in
      let c : IsOfClosed code start b n out shown e so.of_lam =
      closed_planned files run_files asked code start b shown e so.of_lam r.starts eyes r.opens
      (of_code (ClosesCode files run_files asked e) r.compiled.bytes code so.of_lam r.compiled.follows
      (of_bytes (files r.program) r.program program_limit (λ bytes. IsRunCode bytes code) (Closes files run_files asked e) so.of_lam r.compiled so.is)) in
      record { turns = c.turns; end = e; ended = c.ends; is = so.same ∙ ap (ended_plan e) c.is }

  -- there is a plan, since the closed run ends
  plan_of : EndsOnce code b → (plan : Plan) × IsPlan ws files plan
  plan_of once =
      let it = once.some n start in
      let turns : List ℕ = it.0 in
      let e : End = it.1 in
      let p : LamPlan = shows_turns code start out shown turns in (
        ended_plan e p,
        subst (λ (request : Result Request ℕ). IsPlanOf request files (ended_plan e p)) (sym r.asks) (
          e,
          record {
            of_lam = p;
            is = thin_program_then (files r.program) r.program (ClosesCode files run_files asked e) p code r.compiled (closed_then files run_files asked code start b shown e p r.starts eyes r.opens (record { turns = turns; ends = it.2; is = refl }));
            same = refl;
          },
        ),
      )

  pub is_planned : EndsOnce code b → RunIsPlanned ws files code start o b n out
  is_planned once = record { each = asks_planned; some = plan_of once }

  -- the base has no integrity
  pub is_open : flows public_label b ≡ true
  is_open = text_is_open start.names r.base b (subst HasOpenBase r.asks (open_base ws)) r.opens

pub complete : ((code : CodeTree) (b : Label) → EndsOnce code b) → (ws : List Text) (files : Files) → RunsAreComplete ws files
complete once ws files code start o b n out r = is_planned ws files code start o b n out r (once code b)

-- ---- what is there, where a run's end is planned

lam_end : (e : End) (status : LamStatus) → IsRunEnd (ended e status) → IsLamEnd status
lam_end e lam.Done end = tt
lam_end e lam.NoMemory end = end
lam_end e lam.Words end = end
lam_end e lam.Program end = end
lam_end e lam.World end = end
lam_end e lam.Book end = end
lam_end e lam.Missing end = end
lam_end e lam.ShelfFault end = end
lam_end e lam.SinkFault end = end
lam_end e lam.Budget end = tt
lam_end e lam.AllWait end = tt

base_there : (index : ℕ) (IsOf : Label → LamPlan → Type 0) (read : Result Label LabelFault) (p : LamPlan) → IsLamEnd p.status → ByLabel index IsOf read p → (b : Label) × (read ≡ Ok b)
base_there index IsOf (Ok b) p end h = (b, refl)
base_there index IsOf (Err fault) p end h = absurd (subst (λ (it : LamPlan). IsLamEnd it.status) h end)

module _ (ws : List Text) (files : Files) (program world label out base : Text) (n : ℕ) where
  abbrev these_files : ThreadFiles
  these_files = record { world = world; out = out }

  abbrev this : Asked
  this = record { reader = an_observer 3 label; base = base; turns = n }

  order_of : request_of ws ≡ Ok (run program world label out base n) → (e : End) (p : LamPlan) → IsLamEnd p.status → WithFile (files program) program program_limit (Closes files these_files this e) p → IsInOrder ws files n out
  order_of asks e plan end is =
      let p = file_there (files program) program program_limit (Closes files these_files this e) plan end is in
      let c = code_there (ClosesCode files these_files this e) p.bytes plan end p.follows in
      let w = file_there (files world) world world_limit (λ bytes. ByWorld (ClosesFrom out this e c.code) (start_of bytes c.code)) plan end c.follows in
      let s = start_there (ClosesFrom out this e c.code) (start_of w.bytes c.code) plan end w.follows in
      let Over = ClosesOver out this e c.code s.start in
      let o = label_there Over 3 s.start.names (label_of s.start.names label) plan end s.follows in
      let b = base_there base_word (λ x. IsOfClosed c.code s.start x n out (view_lines s.start.names o.0) e) (label_of s.start.names base) plan end (of_reader Over (read_by this.reader s.start.names) (view_lines s.start.names o.0) plan (observed s.start.names label o.0 o.1) s.follows) in
      record {
        code = c.code;
        start = s.start;
        observer = o.0;
        base = b.0;
        asked = record {
          program = program;
          world = world;
          label = label;
          base = base;
          asks = asks;
          compiled = record { bytes = p.bytes; there = p.there; short = p.short; follows = c.compiled };
          starts = record { bytes = w.bytes; there = w.there; short = w.short; follows = s.starts };
          observes = o.1;
          opens = b.1;
        };
      }

  pub plan_in_order : request_of ws ≡ Ok (run program world label out base n) → (plan : Plan) → IsRunEnd plan.status → IsPlan ws files plan → IsInOrder ws files n out
  plan_in_order asks plan end is =
      let planned : IsPlanOf (Ok (run program world label out base n)) files plan = subst (λ (request : Result Request ℕ). IsPlanOf request files plan) asks is in
      let so = planned.1 in
      order_of asks planned.0 so.of_lam (lam_end planned.0 so.of_lam.status (subst (λ (it : Plan). IsRunEnd it.status) so.same end)) so.is
