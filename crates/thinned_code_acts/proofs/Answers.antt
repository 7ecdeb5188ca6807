-- What an answer does to a thread in thinned code.
use Rattle.std.proofs.Common.{◌≡◌, ℕ, ◌+◌, List, [], ◌∷◌, map, None, refl, sym, ap, ap₂, ◌∙◌}
use Rattle.flow_labels.specs.declared.Label.{Label}
use Rattle.flow_labels.specs.Flow.{public_label}
use Rattle.capabilities.specs.declared.Caps.{Caps}
use Rattle.lam_value.specs.declared.values.Value.{Value}
use Rattle.lam_value.specs.declared.values.Value.TheVariants.{Int, Tag, CapV}
use Rattle.lam_asks.specs.declared.fault.Fault.{Fault}
use Rattle.lam_asks.specs.Faults.{fault_number}
use Rattle.lam_asks.specs.declared.answer.Answer.{Answer}
use Rattle.lam_asks.specs.declared.answer.Answer.TheVariants.{Done, Entered, Val, Refused, Failed}
use Rattle.lam_asks.specs.declared.ask.Ask.{Ask}
use Rattle.lam_asks.specs.declared.ask.Ask.TheVariants as ask
use Rattle.lam_bytecode.specs.Codes.{CodeTree}
use Rattle.thread_steps.specs.Threads.{Frame, Inside, Bottom, Body, Catch, Context, Thread}
use Rattle.thread_steps.specs.Ops.{region_in}
use Rattle.thread_steps.specs.Next.{frame_at, entry, with_inside, with_held, without, held_by, with_frame, given, unit_number, region_context, catching, gains, done, entered, answered, result_after, takes, started}
use Rattle.thinned_code.specs.Thinned.{thin_code}
use Rattle.thinned_code.proofs.Thinned.{thin_is}
use Rattle.thinned_code_acts.specs.Moved.{staying_at, moved_inside, moved_phase, outer_unit, moved_context, moved_thread}
use Rattle.thinned_code_acts.specs.Matches.{StartsMatch, AnswersMatch}
use Rattle.thinned_code_acts.proofs.Places.{catch_moved, number_same, outer_moved, outer_same, catch_at_moved}
use Rattle.thinned_code_acts.proofs.Nexts.{entry_moved}

module _ (code : CodeTree) where
  abbrev thin : CodeTree
  thin = thin_code code

  -- the phase is by the unit of the outermost frame
  abbrev by_unit : Context → Inside → ℕ → Context
  by_unit c i n = record { label = c.label; caps = c.caps; depth = c.depth; phase = moved_phase (staying_at code n) c.phase; held = c.held; inside = moved_inside code i }

  pub inside_moved : (c : Context) (i : Inside) → outer_unit i ≡ outer_unit c.inside → with_inside (moved_context code c) (moved_inside code i) ≡ moved_context code (with_inside c i)
  inside_moved c i e = ap (by_unit c i) (sym e)

  -- ---- a catch block

  abbrev catch_frame : Context → Fault → Frame → ℕ → Context
  catch_frame c f o at =
      record {
        label = c.label;
        caps = c.caps;
        depth = c.depth;
        phase = Catch;
        held = [];
        inside = record { frame = record { unit = o.unit; at = at; locals = o.locals; stack = Int (fault_number f) ∷ [] }; callers = []; fault = None };
      }

  catching_moved : (c : Context) (f : Fault) → catching (moved_context code c) f ≡ moved_context code (catching c f)
  catching_moved c f =
      ap₂ (catch_frame c f) (outer_moved code c.inside.frame c.inside.callers) (catch_at_moved (staying_at code (outer_unit c.inside)) c.phase)

  -- ---- a region

  abbrev region_at : Context → Label → Caps → ℕ → Frame → Context
  region_at c l k to f =
      record { label = l; caps = k; depth = c.depth + 1; phase = Body to; held = []; inside = record { frame = f; callers = []; fault = None } }

  region_moved : (c : Context) (l : Label) (k : Caps) (r : ℕ) (vs : List Value) → region_context thin (moved_context code c) l k r vs ≡ moved_context code (region_context code c l k r vs)
  region_moved c l k r vs =
      ap₂ (region_at c l k) (catch_moved code r) (ap (λ u. entry thin u vs) (number_same code r) ∙ entry_moved code (unit_number (region_in r code.units)) vs)

  -- ---- answers

  gains_moved : (a : Ask) (v : Value) (c : Context) → gains a v (moved_context code c) ≡ moved_context code (gains a v c)
  gains_moved ask.Mint (Tag t) c = refl
  gains_moved (ask.ReceiveCaps p) (CapV plus minus) c = refl
  gains_moved a v c = refl

  given_moved : (c : Context) (i : Inside) (v : Value) → outer_unit i ≡ outer_unit c.inside → given (moved_context code c) (moved_inside code i) v ≡ moved_context code (given c i v)
  given_moved c i v e =
      let f = frame_at i.frame i.frame.at i.frame.locals (v ∷ i.frame.stack) in
      inside_moved c (with_frame i f) (outer_same f i.frame i.callers refl ∙ e)

  abbrev moved_all : List Context → List Context
  moved_all cs = map (moved_context code) cs

  done_moved : (c : Context) (rest : List Context) (i : Inside) (a : Ask) → outer_unit i ≡ outer_unit c.inside → done thin (moved_context code c) (moved_all rest) (moved_inside code i) a ≡ moved_all (done code c rest i a)
  done_moved c rest i ask.Leave e = refl
  done_moved c rest i (ask.Barred d) e = refl
  done_moved c rest i (ask.Caught f) e = ap (λ x. x ∷ moved_all rest) (catching_moved c f)
  done_moved c rest i (ask.Suppressed f) e = refl
  done_moved c rest i (ask.End r) e = refl
  done_moved c rest i (ask.MonEnter r) e =
      ap (λ x. with_held x (held_by r (λ n. n ∷ c.held) c.held) ∷ moved_all rest) (inside_moved c i e)
  done_moved c rest i (ask.MonLeave r) e =
      ap (λ x. with_held x (held_by r (λ n. without n c.held) c.held) ∷ moved_all rest) (inside_moved c i e)
  done_moved c rest i a e = ap (λ x. x ∷ moved_all rest) (inside_moved c i e)

  entered_moved : (c : Context) (rest : List Context) (i : Inside) (a : Ask) → outer_unit i ≡ outer_unit c.inside → entered thin (moved_context code c) (moved_all rest) (moved_inside code i) a ≡ moved_all (entered code c rest i a)
  entered_moved c rest i (ask.Enter l k r vs) e =
      ap₂ (λ x y. x ∷ y ∷ moved_all rest) (region_moved c l k r vs) (inside_moved c i e)
  entered_moved c rest i a e = ap (λ x. x ∷ moved_all rest) (inside_moved c i e)

  answered_moved : (c : Context) (rest : List Context) (i : Inside) (a : Ask) (x : Answer) → outer_unit i ≡ outer_unit c.inside → answered thin (moved_context code c) (moved_all rest) (moved_inside code i) a x ≡ moved_all (answered code c rest i a x)
  answered_moved c rest i a Done e = done_moved c rest i a e
  answered_moved c rest i a Entered e = entered_moved c rest i a e
  answered_moved c rest i a (Val v) e =
      ap (λ y. gains a v y ∷ moved_all rest) (given_moved c i v e) ∙ ap (λ y. y ∷ moved_all rest) (gains_moved a v (given c i v))
  answered_moved c rest i a (Refused d) e = refl
  answered_moved c rest i a (Failed f) e = refl

  pub answers_match : AnswersMatch code
  answers_match guarded th c rest i a x e =
      ap (λ t. takes t (moved_thread code th) (moved_context code c) (moved_all rest) (moved_inside code i) a x) (thin_is code guarded)
      ∙ ap (λ cs. let y : Thread = record { contexts = cs; result = result_after th.result a } in y) (answered_moved c rest i a x e)

  abbrev first_at : Caps → Frame → Thread
  first_at k f =
      record { contexts = record { label = public_label; caps = k; depth = 0; phase = Bottom; held = []; inside = record { frame = f; callers = []; fault = None } } ∷ []; result = None }

  pub starts_match : StartsMatch code
  starts_match guarded u vs k = ap (λ t. started t u vs k) (thin_is code guarded) ∙ ap (first_at k) (entry_moved code u vs)
