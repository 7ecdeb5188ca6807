-- From what a call did of its plan to what it tells of a closed run.
use Rattle.std.proofs.Common.{◌≡◌, ℕ, true, List, Option, Some, refl, sym, ap, subst, ◌∙◌}
use Rattle.flow_labels.specs.Flow.{flows}
use Rattle.flow_labels.specs.declared.Label.{Label}
use Rattle.lam_io.specs.Outside.{Files, Took, TookFront}
use Rattle.lam_bytecode.specs.Codes.{CodeTree}
use Rattle.lam_machine_terms.specs.Worlds.{World}
use Rattle.lam_machine_terms.specs.Turns.{moments}
use Rattle.audit_log.specs.Log.{view_lines}
use Rattle.turn_book.specs.Book.{book}
use Rattle.closed_terms.specs.declared.End.{End}
use Rattle.closed_terms.specs.declared.End.TheVariants as ends
use Rattle.closed_terms.specs.Ends.{is_public_end, IsEnded}
use Rattle.closed_laws.specs.Ordered.{AreStarts, IsOrdered, ReleasesFollow}
use Rattle.closed_laws.specs.Ended.{EndsAreSame, EndsAreLast, QuietAreSame}
use Rattle.closed_laws.specs.Once.{EndsOnce}
use Rattle.closed_starts.specs.Texts.{TextsAreStarts}
use Rattle.lam_main_words.specs.Words.{Text}
use Rattle.lam_closed_words.specs.Words.{request_of}
use Rattle.lam_closed_plan.specs.declared.Status.{Status}
use Rattle.lam_closed_plan.specs.declared.Status.TheVariants.{NoMemory, ShelfFault, SinkFault}
use Rattle.lam_closed_plan.specs.Outcome.{Plan, status_of}
use Rattle.lam_closed_plan.specs.Plan.{IsPlan, written_by}
use Rattle.lam_closed_plan.specs.Answer.{Outside, IsPrinted, whole, front, AsPlanned, IsAnswer, by_plan, out_of_memory, shelf_failed}
use Rattle.lam_closed_laws.specs.Asks.{AsksRun, IsRunEnd, IsPublicEnd}
use Rattle.lam_closed_laws.specs.Headline.{KeepsRun, Headline, BreaksOff, EndsInOrder, IsOfRun}
use Rattle.lam_closed_laws.specs.Alone.{TellsNoMore}
use Rattle.lam_closed_laws.specs.Shown.{CallsShowSame}
use Rattle.lam_closed_laws.proofs.AloneLemmas.{same_lines, tells_no_more}
use Rattle.lam_closed_laws.proofs.PlanLemmas.{asks_planned, is_open, plan_in_order}

-- ---- what the call did

-- it did what some plan says
pub record Did (status : Status) (IsPlan : Plan → Type 0) (old new : Outside) : Type 0 where
  pub plan : Plan
  pub is : IsPlan plan
  pub does : AsPlanned status plan old new

pub did : (asked : Option Text) (status : Status) (IsPlan : Plan → Type 0) (old new : Outside) → (status ≡ NoMemory → ⊥) → (status ≡ ShelfFault → ⊥) → IsAnswer asked status IsPlan old new → Did status IsPlan old new
did asked status IsPlan old new memory shelf (by_plan plan is does) = record { plan = plan; is = is; does = does }
did asked status IsPlan old new memory shelf (out_of_memory e t k) = absurd (memory e)
did asked status IsPlan old new memory shelf (shelf_failed e t k) = absurd (shelf e)

-- what no fault has as its status
pub record IsNoFault (P : Status → Type 0) : Type 0 where
  pub memory : P NoMemory → ⊥
  pub shelf : P ShelfFault → ⊥
  pub sink : P SinkFault → ⊥

module _ (P : Status → Type 0) (none : IsNoFault P) (status : Status) (end : P status) where
  pub did_so : (asked : Option Text) (IsPlan : Plan → Type 0) (old new : Outside) → IsAnswer asked status IsPlan old new → Did status IsPlan old new
  did_so asked IsPlan old new answer = did asked status IsPlan old new (λ e. none.memory (subst P e end)) (λ e. none.shelf (subst P e end)) answer

  -- it printed all, and ended as planned
  pub ended_whole : (planned : Status) (text : Text) (old new : Option Text) → IsPrinted status planned text old new → (status ≡ planned) × Took old new text
  ended_whole planned text old new (whole e t) = (e, t)
  ended_whole planned text old new (front e t) = absurd (none.sink (subst P e end))

pub no_fault_ends : IsNoFault IsRunEnd
no_fault_ends = record { memory = λ h. h; shelf = λ h. h; sink = λ h. h }

no_fault_ends_publicly : IsNoFault IsPublicEnd
no_fault_ends_publicly = record { memory = λ h. h; shelf = λ h. h; sink = λ h. h }

-- a call whose sink failed printed a front, where a run's end was planned
pub is_run_end : (e : End) → IsRunEnd (status_of e)
is_run_end ends.Done = tt
is_run_end ends.Cut = tt
is_run_end ends.Waits = tt
is_run_end ends.Stalled = tt
is_run_end ends.Over = tt

broken_front : (status : Status) (e : End) (text : Text) (old new : Option Text) → status ≡ SinkFault → IsPrinted status (status_of e) text old new → TookFront old new text
broken_front status e text old new sink (whole is t) = absurd (subst IsRunEnd (sym is ∙ sink) (is_run_end e))
broken_front status e text old new sink (front is t) = t

public_end : (status : Status) (e : End) → status ≡ status_of e → IsPublicEnd status → is_public_end e ≡ true
public_end status ends.Done is end = refl
public_end status ends.Cut is end = refl
public_end status ends.Waits is end = refl
public_end status ends.Stalled is end = absurd (subst IsPublicEnd is end)
public_end status ends.Over is end = absurd (subst IsPublicEnd is end)

-- ---- what it tells of the run

module _ (code : CodeTree) (start : World) (o b : Label) (n : ℕ) (out : Text) (status : Status) (plan : Plan) (old new : Outside) (p : IsOfRun code start o b n out plan) (does : AsPlanned status plan old new) where
  abbrev run_plan : Plan
  run_plan = record { status = status_of p.end; text = view_lines start.names o (moments code p.turns start); writes = Some (out, book p.turns) }

  pub does_run : AsPlanned status run_plan old new
  does_run = subst (λ (it : Plan). AsPlanned status it old new) p.is does

  keeps_run : KeepsRun code start b n out p.turns p.end old.files new.files
  keeps_run = let d = does_run in record { ended = p.ended; recorded = d.files.0; others = d.files.1 }

-- starts that documents give
module _ (starts : (code : CodeTree) (b o : Label) → TextsAreStarts code b o) where
  module _ (ws : List Text) (files : Files) (code : CodeTree) (start : World) (o b : Label) (n : ℕ) (out : Text) (r : AsksRun ws files code start o b n out) where
    -- one is like itself
    own_start : AreStarts b o start start
    own_start =
        starts code b o (is_open ws files code start o b n out r) r.starts.bytes r.starts.bytes start start r.starts.follows r.starts.follows
        (record { names = refl; public = refl; views = refl })

  module _ (ordered : (code : CodeTree) (b o : Label) → IsOrdered code b o) (same : (code : CodeTree) (b o : Label) → EndsAreSame code b o) (last : (code : CodeTree) (b o : Label) → EndsAreLast code b o) (follow : (code : CodeTree) (b o : Label) → ReleasesFollow code b o) (once : (code : CodeTree) (b : Label) → EndsOnce code b) where
    alone : (ws : List Text) (files : Files) (code : CodeTree) (start : World) (o b : Label) (n : ℕ) (out : Text) (r : AsksRun ws files code start o b n out) (turns : List ℕ) (e : End) → IsEnded b code n e turns start → flows b o ≡ true → TellsNoMore code b o n start turns e
    alone ws files code start o b n out r turns e ended =
        tells_no_more ordered same last follow once code b o n start turns e (is_open ws files code start o b n out r) (own_start ws files code start o b n out r).labelled (own_start ws files code start o b n out r).others ended

    pub recorded : (ws : List Text) (status : Status) (old new : Outside) → IsAnswer (written_by (request_of ws)) status (IsPlan ws old.files) old new → Headline ws status old new
    recorded ws status old new answer code start o b n out r end =
        let d = did_so IsRunEnd no_fault_ends status end (written_by (request_of ws)) (IsPlan ws old.files) old new answer in
        let p = asks_planned ws old.files code start o b n out r d.plan d.is in
        let does = does_run code start o b n out status d.plan old new p d.does in
        let all = ended_whole IsRunEnd no_fault_ends status end (status_of p.end) (view_lines start.names o (moments code p.turns start)) old.taken new.taken does.printed in
        record {
          turns = p.turns;
          end = p.end;
          keeps = keeps_run code start o b n out status d.plan old new p d.does;
          ends = all.0;
          printed = all.1;
          alone = alone ws old.files code start o b n out r p.turns p.end p.ended;
        }

    pub broken_off : (ws : List Text) (status : Status) (old new : Outside) → IsAnswer (written_by (request_of ws)) status (IsPlan ws old.files) old new → BreaksOff ws status old new
    broken_off ws status old new answer code start o b n out r sink =
        let d = did (written_by (request_of ws)) status (IsPlan ws old.files) old new (λ e. let no : ⊥ = cc in no) (λ e. let no : ⊥ = cc in no) answer in
        let p = asks_planned ws old.files code start o b n out r d.plan d.is in
        let does = does_run code start o b n out status d.plan old new p d.does in
        record {
          turns = p.turns;
          end = p.end;
          keeps = keeps_run code start o b n out status d.plan old new p d.does;
          front = broken_front status p.end (view_lines start.names o (moments code p.turns start)) old.taken new.taken sink does.printed;
          alone = alone ws old.files code start o b n out r p.turns p.end p.ended;
        }

  -- ---- two calls

  module _ (quiet : (code : CodeTree) (b o : Label) → QuietAreSame code b o) where
    pub show_same : (ws : List Text) (status : Status) (old new : Outside) → IsAnswer (written_by (request_of ws)) status (IsPlan ws old.files) old new → CallsShowSame ws status old new
    show_same ws status old new answer ws' status' old' new' answer' code start start' o b n out out' r r' sees agree none none' end end' =
        let d = did_so IsPublicEnd no_fault_ends_publicly status end (written_by (request_of ws)) (IsPlan ws old.files) old new answer in
        let d' = did_so IsPublicEnd no_fault_ends_publicly status' end' (written_by (request_of ws')) (IsPlan ws' old'.files) old' new' answer' in
        let p = asks_planned ws old.files code start o b n out r d.plan d.is in
        let p' = asks_planned ws' old'.files code start' o b n out' r' d'.plan d'.is in
        let does = does_run code start o b n out status d.plan old new p d.does in
        let does' = does_run code start' o b n out' status' d'.plan old' new' p' d'.does in
        let lines : Text = view_lines start.names o (moments code p.turns start) in
        let lines' : Text = view_lines start'.names o (moments code p'.turns start') in
        let all = ended_whole IsPublicEnd no_fault_ends_publicly status end (status_of p.end) lines old.taken new.taken does.printed in
        let all' = ended_whole IsPublicEnd no_fault_ends_publicly status' end' (status_of p'.end) lines' old'.taken new'.taken does'.printed in
        let looks =
        quiet code b o (is_open ws old.files code start o b n out r) sees start start' p.turns p'.turns n p.end p'.end
        (starts code b o (is_open ws old.files code start o b n out r) r.starts.bytes r'.starts.bytes start start' r.starts.follows r'.starts.follows agree) p.ended p'.ended (public_end status p.end all.0 end) (public_end status' p'.end all'.0 end') (none p.turns p.end p.ended) (none' p'.turns p'.end p'.ended) in
        record {
          text = lines;
          first = all.1;
          second = subst (λ (text : Text). Took old'.taken new'.taken text) (sym (same_lines o start.names start'.names (moments code p.turns start) (moments code p'.turns start') agree.names looks.traces)) all'.1;
          ends = all.0 ∙ ap status_of looks.ends ∙ sym all'.0;
        }

-- ---- what was in order

pub ends_in_order : (ws : List Text) (status : Status) (old new : Outside) → IsAnswer (written_by (request_of ws)) status (IsPlan ws old.files) old new → EndsInOrder ws status old
ends_in_order ws status old new answer program world label out base n asks end =
    let d = did_so IsRunEnd no_fault_ends status end (written_by (request_of ws)) (IsPlan ws old.files) old new answer in
    let all = ended_whole IsRunEnd no_fault_ends status end d.plan.status d.plan.text old.taken new.taken d.does.printed in
    plan_in_order ws old.files program world label out base n asks d.plan (subst IsRunEnd all.0 end) d.is
