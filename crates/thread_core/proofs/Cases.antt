-- What comes next, case by case.
use Rattle.std.proofs.Common.{◌≡◌, ℕ, cond, List, [], ◌∷◌, drop, Option, Some, None, ap, ◌∙◌, sym, subst, refl}
use Rattle.std.specs.Prelude.{slice_get, slice_set}
use Rattle.flow_labels.specs.declared.Label.{Label}
use Rattle.lam_value.specs.declared.values.Value.{Value}
use Rattle.lam_asks.specs.declared.fault.Fault.{Fault}
use Rattle.lam_asks.specs.declared.ask.Ask.{Ask}
use Rattle.lam_asks.specs.declared.ask.Ask.TheVariants as ask
use Rattle.lam_asks.specs.declared.answer.Outcome.TheVariants as outcome
use Rattle.lam_bytecode.specs.Codes.{CodeTree}
use Rattle.thread_steps.specs.Threads.{Frame, Inside, Phase, Bottom, Body, Catch, Context, Thread}
use Rattle.thread_core_state.specs.Stacked.{is_bottom}
use Rattle.thread_steps.specs.Ops.{sets, returns, on_any}
use Rattle.thread_steps.specs.Next.{Next, goes, asks, stuck, stands, is_shared, is_private, is_stuck, is_ended, raised, returned, ending, leaving, next_by, next_of, standing_in, with_inside}
use Rattle.thread_core.specs.declared.turn.Turn.TheVariants as turn
use Rattle.thread_core.specs.Turning.{turned, moved, turn_in, stepped_in, stepped, asked, asked_in, ask_of, awaited, nobody}
use Rattle.thread_core.specs.Untested.{ThreadFinds}
use Rattle.thread_core.specs.Moves.{raised_ask, with_result, caller_with}

-- ---- a fault that was raised

pub raised_stands : (ph : Phase) (i : Inside) (f : Fault) → stands (raised ph i f) ≡ is_shared
raised_stands Bottom i f = refl
raised_stands (Body at) i f = refl
raised_stands Catch i f = refl

pub raised_asked : (ph : Phase) (i : Inside) (f : Fault) → asked (raised ph i f) ≡ Some (raised_ask ph f)
raised_asked Bottom i f = refl
raised_asked (Body at) i f = refl
raised_asked Catch i f = refl

pub raised_moved : (c : Context) (ph : Phase) (i : Inside) (f : Fault) → moved c (raised ph i f) ≡ c
raised_moved c Bottom i f = refl
raised_moved c (Body at) i f = refl
raised_moved c Catch i f = refl

pub raised_waits : (p : Label) (ph : Phase) (i : Inside) (f : Fault) → awaited p (asked (raised ph i f)) ≡ nobody
raised_waits p Bottom i f = refl
raised_waits p (Body at) i f = refl
raised_waits p Catch i f = refl

pub raised_left : (ph : Phase) (i j : Inside) (f : Fault) (a : Ask) → raised ph i f ≡ asks a j → j ≡ i
raised_left Bottom i j f a e = cc
raised_left (Body at) i j f a e = cc
raised_left Catch i j f a e = cc

-- ---- a result

returned_frames : (ph : Phase) (i j : Inside) (v : Value) (fs : List Frame) (a : Ask) → returned ph i v fs ≡ asks a j → j ≡ i
returned_frames Bottom i j v [] a e = cc
returned_frames (Body at) i j v [] a e = cc
returned_frames Catch i j v [] a e = cc
returned_frames ph i j v (f ∷ fs) a e = cc

returned_frames_wait : (p : Label) (ph : Phase) (i : Inside) (v : Value) (fs : List Frame) → awaited p (asked (returned ph i v fs)) ≡ nobody
returned_frames_wait p Bottom i v [] = refl
returned_frames_wait p (Body at) i v [] = refl
returned_frames_wait p Catch i v [] = refl
returned_frames_wait p ph i v (f ∷ fs) = refl

pub returned_left : (code : CodeTree) (ph : Phase) (i j : Inside) (s : List Value) (a : Ask) → next_by code ph i (on_any s (λ v s. returns v)) ≡ asks a j → j ≡ i
returned_left code ph i j [] a e = cc
returned_left code ph i j (v ∷ s) a e = returned_frames ph i j v i.callers a e

pub returned_waits : (p : Label) (code : CodeTree) (ph : Phase) (i : Inside) (s : List Value) → awaited p (asked (next_by code ph i (on_any s (λ v s. returns v)))) ≡ nobody
returned_waits p code ph i [] = refl
returned_waits p code ph i (v ∷ s) = returned_frames_wait p ph i v i.callers

-- ---- a region that is left

pub leaving_left : (ph : Phase) (i j : Inside) (a : Ask) → leaving ph i ≡ asks a j → j ≡ i
leaving_left Bottom i j a e = cc
leaving_left (Body at) i j a e = cc
leaving_left Catch i j a e = cc

pub leaving_waits : (p : Label) (ph : Phase) (i : Inside) → awaited p (asked (leaving ph i)) ≡ nobody
leaving_waits p Bottom i = refl
leaving_waits p (Body at) i = refl
leaving_waits p Catch i = refl

-- ---- a local

pub set_left : (code : CodeTree) (ph : Phase) (i j : Inside) (s ls : List Value) (n : ℕ) (a : Ask) → next_by code ph i (on_any s (λ v s. sets (slice_set ls n v) s)) ≡ asks a j → j ≡ i
set_left code ph i j [] ls n a e = cc
set_left code ph i j (v ∷ s) ls n a e = cc

pub set_waits : (p : Label) (code : CodeTree) (ph : Phase) (i : Inside) (s ls : List Value) (n : ℕ) → awaited p (asked (next_by code ph i (on_any s (λ v s. sets (slice_set ls n v) s)))) ≡ nobody
set_waits p code ph i [] ls n = refl
set_waits p code ph i (v ∷ s) ls n = refl

pub set_asked : (code : CodeTree) (ph : Phase) (i : Inside) (s ls : List Value) (n : ℕ) → asked (next_by code ph i (on_any s (λ v s. sets (slice_set ls n v) s))) ≡ None
set_asked code ph i [] ls n = refl
set_asked code ph i (v ∷ s) ls n = refl

-- ---- a region that is left, by what the context is

pub leaving_stands : (ph : Phase) (i : Inside) → stands (leaving ph i) ≡ cond (is_bottom ph) is_stuck is_shared
leaving_stands Bottom i = refl
leaving_stands (Body at) i = refl
leaving_stands Catch i = refl

pub leaving_asked : (ph : Phase) (i : Inside) → asked (leaving ph i) ≡ cond (is_bottom ph) None (Some ask.Leave)
leaving_asked Bottom i = refl
leaving_asked (Body at) i = refl
leaving_asked Catch i = refl

pub leaving_moved : (c : Context) (ph : Phase) (i : Inside) → moved c (leaving ph i) ≡ c
leaving_moved c Bottom i = refl
leaving_moved c (Body at) i = refl
leaving_moved c Catch i = refl

-- ---- a result, by what the context is

pub ending_stands : (ph : Phase) (i : Inside) (v : Value) → stands (ending ph i v) ≡ cond (is_bottom ph) is_shared is_stuck
ending_stands Bottom i v = refl
ending_stands (Body at) i v = refl
ending_stands Catch i v = refl

pub ending_asked : (ph : Phase) (i : Inside) (v : Value) → asked (ending ph i v) ≡ cond (is_bottom ph) (Some (ask.End (outcome.Value v))) None
ending_asked Bottom i v = refl
ending_asked (Body at) i v = refl
ending_asked Catch i v = refl

pub ending_moved : (c : Context) (ph : Phase) (i : Inside) (v : Value) → moved c (ending ph i v) ≡ c
ending_moved c Bottom i v = refl
ending_moved c (Body at) i v = refl
ending_moved c Catch i v = refl

-- the only call of a context returns
pub ended_stands : (code : CodeTree) (ph : Phase) (i : Inside) (v : Value) (s : List Value) → slice_get s 0 ≡ Some v → i.callers ≡ [] → stands (next_by code ph i (on_any s (λ v s. returns v))) ≡ cond (is_bottom ph) is_shared is_stuck
ended_stands code ph i v [] e f = cc
ended_stands code ph i v (w ∷ s) e f = ap (λ fs. stands (returned ph i w fs)) f ∙ ending_stands ph i w

pub ended_moved : (code : CodeTree) (c : Context) (v : Value) (s : List Value) → slice_get s 0 ≡ Some v → c.inside.callers ≡ [] → moved c (next_by code c.phase c.inside (on_any s (λ v s. returns v))) ≡ c
ended_moved code c v [] e f = cc
ended_moved code c v (w ∷ s) e f = ap (λ fs. moved c (returned c.phase c.inside w fs)) f ∙ ending_moved c c.phase c.inside w

-- a call returns to the one that waits for it
pub back_stands : (code : CodeTree) (c : Context) (v : Value) (f : Frame) (fs : List Frame) (s : List Value) → slice_get s 0 ≡ Some v → c.inside.callers ≡ fs → Some f ≡ caller_with v fs
    → stands (next_by code c.phase c.inside (on_any s (λ v s. returns v))) ≡ is_private
back_stands code c v f fs [] e g h = cc
back_stands code c v f [] (w ∷ s) e g h = cc
back_stands code c v f (k ∷ ks) (w ∷ s) e g h = ap (λ l. stands (returned c.phase c.inside w l)) g

pub back_moved : (code : CodeTree) (c : Context) (v : Value) (f : Frame) (fs : List Frame) (s : List Value) → slice_get s 0 ≡ Some v → c.inside.callers ≡ fs → Some f ≡ caller_with v fs
    → moved c (next_by code c.phase c.inside (on_any s (λ v s. returns v))) ≡ with_inside c (record { frame = f; callers = drop 1 fs; fault = None })
back_moved code c v f fs [] e g h = cc
back_moved code c v f [] (w ∷ s) e g h = cc
back_moved code c v f (k ∷ ks) (w ∷ s) e g h =
    let n : w ≡ v = cc in
    let m : with_result k v ≡ f = cc in
    ap (λ l. moved c (returned c.phase c.inside w l)) g
    ∙ (ap (λ x. with_inside c (record { frame = with_result k x; callers = ks; fault = None })) n ∙ ap (λ x. with_inside c (record { frame = x; callers = ks; fault = None })) m)

-- ---- a thread that stands shared asks

next_asks : (n : Next) → stands n ≡ is_shared → asked n ≡ None → ⊥
next_asks (goes i) e f = cc
next_asks (asks a i) e f = cc
next_asks stuck e f = cc

pub shared_asks : (code : CodeTree) (cs : List Context) → standing_in code cs ≡ is_shared → asked_in code cs ≡ None → ⊥
shared_asks code [] e f = cc
shared_asks code (c ∷ cs) e f = next_asks (next_of code c) e f

-- ---- the turn of a thread, by how it stands

turned_private : (n : Next) → stands n ≡ is_private → turned n ≡ turn.Private
turned_private (goes i) e = refl
turned_private (asks a i) e = cc
turned_private stuck e = cc

turned_stuck : (n : Next) → stands n ≡ is_stuck → turned n ≡ turn.Stuck
turned_stuck (goes i) e = cc
turned_stuck (asks a i) e = cc
turned_stuck stuck e = refl

pub stands_there : (n : Next) → stands n ≡ is_ended → ⊥
stands_there (goes i) e = cc
stands_there (asks a i) e = cc
stands_there stuck e = cc

turned_asked : (n : Next) (a : Ask) → asked n ≡ Some a → turned n ≡ turn.Asks a
turned_asked (goes i) a e = cc
turned_asked (asks b i) a e = let f : b ≡ a = cc in ap turn.Asks f
turned_asked stuck a e = cc

moved_asked : (c : Context) (n : Next) (a : Ask) → asked n ≡ Some a → moved c n ≡ c
moved_asked c (goes i) a e = cc
moved_asked c (asks b i) a e = refl
moved_asked c stuck a e = cc

pub turn_private : (code : CodeTree) (cs : List Context) → standing_in code cs ≡ is_private → turn_in code cs ≡ turn.Private
turn_private code [] e = cc
turn_private code (c ∷ cs) e = turned_private (next_of code c) e

pub turn_stuck : (code : CodeTree) (cs : List Context) → standing_in code cs ≡ is_stuck → turn_in code cs ≡ turn.Stuck
turn_stuck code [] e = cc
turn_stuck code (c ∷ cs) e = turned_stuck (next_of code c) e

pub turn_ended : (code : CodeTree) (cs : List Context) → standing_in code cs ≡ is_ended → turn_in code cs ≡ turn.Ended
turn_ended code [] e = refl
turn_ended code (c ∷ cs) e = absurd (stands_there (next_of code c) e)

pub turn_asked : (code : CodeTree) (cs : List Context) (a : Ask) → asked_in code cs ≡ Some a → turn_in code cs ≡ turn.Asks a
turn_asked code [] a e = cc
turn_asked code (c ∷ cs) a e = turned_asked (next_of code c) a e

-- a thread that asks is as it was
stays_in : (code : CodeTree) (cs : List Context) (a : Ask) → asked_in code cs ≡ Some a → stepped_in code cs ≡ cs
stays_in code [] a e = cc
stays_in code (c ∷ cs) a e = ap (λ x. x ∷ cs) (moved_asked c (next_of code c) a e)

pub asked_stays : (code : CodeTree) (th : Thread) (a : Ask) → asked_in code th.contexts ≡ Some a → stepped code th ≡ th
asked_stays code th a e = ap (λ cs. record { contexts = cs; result = th.result }) (stays_in code th.contexts a e)

-- ---- what was asked, by an equal code

pub found_ask : (k code : CodeTree) (th : Thread) (o : Option Ask) (a : Ask) → k ≡ code → ThreadFinds code th → (ThreadFinds k th → o ≡ ask_of k th) → o ≡ Some a → ask_of code th ≡ Some a
found_ask k code th o a e finds h is = ap (λ (x : CodeTree). ask_of x th) (sym e) ∙ (sym (h (subst (λ (x : CodeTree). ThreadFinds x th) (sym e) finds)) ∙ is)
