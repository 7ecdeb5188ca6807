-- What a context does next in thinned code.
use Rattle.std.proofs.Common.{IsTrue, ◌≡◌, ℕ, ◌+◌, List, [], ◌∷◌, ◌++◌, map, Bool, true, Option, Some, None, length, slice_get, option_map, refl, sym, ap, ap₂, ◌∙◌, subst}
use Rattle.std.specs.Prelude.{replicate, ◌-◌}
use Rattle.std.proofs.lemmas.List.{length-map}
use Rattle.lam_value.specs.declared.values.Value.{Value}
use Rattle.lam_value.specs.declared.values.Value.TheVariants.{Nothing}
use Rattle.lam_asks.specs.declared.fault.Fault.{Fault}
use Rattle.lam_bytecode.specs.Codes.{CodeTree}
use Rattle.lam_bytecode.specs.declared.unit.CodeUnit.{CodeUnit}
use Rattle.lam_bytecode.specs.declared.op.Op.{Op}
use Rattle.thread_steps.specs.Threads.{Frame, Inside, Phase, Bottom, Body, Catch, Context}
use Rattle.thread_steps.specs.Ops.{Did, gives, sets, calls, returns, fails, wants, leaves, breaks, Around, effect}
use Rattle.thread_steps.specs.Next.{Next, goes, asks, frame_at, outermost, locals_in, filled, entry, next_by, returned, ending, leaving, raised, ops_in, ops_of, around, next_op, next_in, next_of}
use Rattle.guarded_code.specs.Changes as changes
use Rattle.guarded_code.specs.Breaks.{all_within, IsGuarded}
use Rattle.thinned_code.specs.Thinned.{moved, moved_op, thinned_unit, thin_code}
use Rattle.thinned_code.proofs.Sifting.{moved_zero, next_kept}
use Rattle.thinned_code.proofs.Units.{unit_at}
use Rattle.thinned_code.proofs.Thinned.{thin_is, stays_guarded}
use Rattle.thinned_code_acts.specs.Moved.{staying_at, moved_frame, moved_inside, moved_phase, outer_unit, moved_context, moved_next, StaysBy, Stays}
use Rattle.thinned_code_acts.specs.Matches.{NextMatches, IsKept, PlaceIsKept}
use Rattle.thinned_code_acts.proofs.Dids.{moved_did, effect_moved}
use Rattle.thinned_code_acts.proofs.Places.{StayingOp, staying_op, thin_unit_is, goes_inside, outer_same}

module _ (code : CodeTree) where
  -- ---- entries
  locals_same : (o : Option CodeUnit) → locals_in (option_map (thinned_unit code) o) ≡ locals_in o
  locals_same None = refl
  locals_same (Some u) = refl

  abbrev filled_to : List Value → ℕ → List Value
  filled_to vs n = vs ++ replicate (n - length vs) Nothing

  filled_same : (u : ℕ) (vs : List Value) → filled (slice_get (thin_code code).units u) vs ≡ filled (slice_get code.units u) vs
  filled_same u vs = ap (filled_to vs) (ap locals_in (unit_at code code.units u) ∙ locals_same (slice_get code.units u))

  abbrev frame_with : ℕ → List Value → ℕ → List Value → Frame
  frame_with u s at locals = record { unit = u; at = at; locals = locals; stack = s }

  pub entry_moved : (u : ℕ) (vs : List Value) → entry (thin_code code) u vs ≡ moved_frame code (entry code u vs)
  entry_moved u vs = ap₂ (frame_with u []) (sym (moved_zero (staying_at code u))) (filled_same u vs)

  -- ---- what comes of what an operation does

  abbrev going : Inside → List Value → List Value → ℕ → Inside
  going i locals s at = record { frame = record { unit = i.frame.unit; at = at; locals = locals; stack = s }; callers = map (moved_frame code) i.callers; fault = None }

  abbrev calling : Inside → List Value → Frame → ℕ → Next
  calling i s f at = goes (record { frame = f; callers = record { unit = i.frame.unit; at = at; locals = i.frame.locals; stack = s } ∷ map (moved_frame code) i.callers; fault = None })

  ending_moved : (ks : List Bool) (ph : Phase) (i : Inside) (v : Value) → ending (moved_phase ks ph) (moved_inside code i) v ≡ moved_next code (ending ph i v)
  ending_moved ks Bottom i v = refl
  ending_moved ks ph i v = refl

  returned_moved : (ks : List Bool) (ph : Phase) (i : Inside) (v : Value) (fs : List Frame) → returned (moved_phase ks ph) (moved_inside code i) v (map (moved_frame code) fs) ≡ moved_next code (returned ph i v fs)
  returned_moved ks ph i v [] = ending_moved ks ph i v
  returned_moved ks ph i v (f ∷ fs) = refl

  leaving_moved : (ks : List Bool) (ph : Phase) (i : Inside) → leaving (moved_phase ks ph) (moved_inside code i) ≡ moved_next code (leaving ph i)
  leaving_moved ks Bottom i = refl
  leaving_moved ks ph i = refl

  raised_moved : (ks : List Bool) (ph : Phase) (i : Inside) (f : Fault) → raised (moved_phase ks ph) (moved_inside code i) f ≡ moved_next code (raised ph i f)
  raised_moved ks Bottom i f = refl
  raised_moved ks ph i f = refl

  did_moved : (ks : List Bool) (ph : Phase) (i : Inside) (d : Did) → moved (staying_at code i.frame.unit) (i.frame.at + 1) ≡ moved (staying_at code i.frame.unit) i.frame.at + 1 → next_by (thin_code code) (moved_phase ks ph) (moved_inside code i) (moved_did (staying_at code i.frame.unit) d) ≡ moved_next code (next_by code ph i d)
  did_moved ks ph i (gives s) e = ap (λ at. goes (going i i.frame.locals s at)) (sym e)
  did_moved ks ph i (sets ls s) e = ap (λ at. goes (going i ls s at)) (sym e)
  did_moved ks ph i (calls u vs s) e = ap₂ (calling i s) (entry_moved u vs) (sym e)
  did_moved ks ph i (returns v) e = returned_moved ks ph i v i.callers
  did_moved ks ph i (wants a s) e = ap (λ at. asks a (going i i.frame.locals s at)) (sym e)
  did_moved ks ph i leaves e = leaving_moved ks ph i
  did_moved ks ph i d e = refl

  -- ---- the next turn

  abbrev around_at : Context → ℕ → ℕ → Around
  around_at c size frames =
      record { code = thin_code code; label = c.label; caps = c.caps; held = c.held; locals = c.inside.frame.locals; size = size; frames = frames + 1 }

  -- by the number of the unit's operations in both
  op_next : IsGuarded code → (c : Context) (h : StayingOp code c.inside.frame.unit c.inside.frame.at) → slice_get (staying_at code c.inside.frame.unit) c.inside.frame.at ≡ Some true → next_op (thin_code code) (moved_context code c) (Some (moved_op (staying_at code c.inside.frame.unit) h.op)) ≡ moved_next code (next_op code c (Some h.op))
  op_next guarded c h stays =
      let f = c.inside.frame in
      let ks = staying_at code f.unit in
      let thin = thin_code code in
      let ph = moved_phase (staying_at code (outer_unit c.inside)) c.phase in
      let size = length (ops_of code f.unit) in
      let count = length (ops_of thin f.unit) in
      let here = subst (λ (o : Option CodeUnit). IsTrue (all_within (length (ops_in o)) (changes.goes f.at h.op))) (sym h.unit_is) (goes_inside code guarded f.unit f.at h.unit h.op h.unit_is h.op_is) in
      let there = subst (λ (o : Option CodeUnit). IsTrue (all_within (length (ops_in o)) (changes.goes (moved ks f.at) (moved_op ks h.op)))) (sym (thin_unit_is code f.unit h.unit h.unit_is)) (goes_inside thin (subst IsGuarded (thin_is code guarded) (stays_guarded code guarded)) f.unit (moved ks f.at) (thinned_unit code h.unit) (moved_op ks h.op) (thin_unit_is code f.unit h.unit h.unit_is) h.thin_op) in
      ap (λ n. next_by thin ph (moved_inside code c.inside) (effect (around_at c count n) f.stack (moved_op ks h.op))) (length-map c.inside.callers (moved_frame code))
      ∙ ap (next_by thin ph (moved_inside code c.inside)) (effect_moved (around code c) ks count f.at (moved ks f.at) f.stack h.op here there)
      ∙ did_moved (staying_at code (outer_unit c.inside)) c.phase c.inside (effect (around code c) f.stack h.op) (next_kept ks f.at stays)

  next_by_fault : IsGuarded code → (c : Context) (o : Option Fault) → c.inside.fault ≡ o → Stays code c → next_in (thin_code code) (moved_context code c) o ≡ moved_next code (next_in code c o)
  next_by_fault guarded c (Some x) e stays = raised_moved (staying_at code (outer_unit c.inside)) c.phase c.inside x
  next_by_fault guarded c None e stays =
      let f = c.inside.frame in
      let ks = staying_at code f.unit in
      let kept = subst (λ o. StaysBy code f o) e stays in
      let h = staying_op code f.unit f.at kept in
      ap (next_op (thin_code code) (moved_context code c)) (ap (λ (o : Option CodeUnit). slice_get (ops_in o) (moved ks f.at)) (thin_unit_is code f.unit h.unit h.unit_is) ∙ h.thin_op)
      ∙ op_next guarded c h kept
      ∙ ap (λ o. moved_next code (next_op code c o)) (sym (ap (λ (o : Option CodeUnit). slice_get (ops_in o) f.at) h.unit_is ∙ h.op_is))

  pub next_moved : IsGuarded code → (c : Context) → Stays code c → next_of (thin_code code) (moved_context code c) ≡ moved_next code (next_of code c)
  unfolding next_of
  next_moved guarded c stays = next_by_fault guarded c c.inside.fault refl stays

  pub next_matches : NextMatches code
  next_matches guarded c stays = ap (λ t. next_of t (moved_context code c)) (thin_is code guarded) ∙ next_moved guarded c stays

  -- ---- the outermost frame stays in its unit

  kept_ending : (c : Context) (ph : Phase) (v : Value) → IsKept c (ending ph c.inside v)
  kept_ending c Bottom v = refl
  kept_ending c (Body to) v = tt
  kept_ending c Catch v = tt

  kept_returned : (c : Context) (v : Value) (fs : List Frame) → c.inside.callers ≡ fs → IsKept c (returned c.phase c.inside v fs)
  kept_returned c v [] e = kept_ending c c.phase v
  kept_returned c v (f ∷ fs) e = outer_same (frame_at f f.at f.locals (v ∷ f.stack)) f fs refl ∙ ap (λ gs. (outermost c.inside.frame gs).unit) (sym e)

  kept_leaving : (c : Context) (ph : Phase) → IsKept c (leaving ph c.inside)
  kept_leaving c Bottom = tt
  kept_leaving c (Body to) = refl
  kept_leaving c Catch = refl

  kept_did : (c : Context) (d : Did) → IsKept c (next_by code c.phase c.inside d)
  kept_did c (calls u vs s) = outer_same (frame_at c.inside.frame (c.inside.frame.at + 1) c.inside.frame.locals s) c.inside.frame c.inside.callers refl
  kept_did c (returns v) = kept_returned c v c.inside.callers refl
  kept_did c (fails f) = refl
  kept_did c leaves = kept_leaving c c.phase
  kept_did c breaks = tt
  kept_did c d = outer_same _ c.inside.frame c.inside.callers refl

  kept_op : (c : Context) (o : Option Op) → IsKept c (next_op code c o)
  kept_op c None = tt
  kept_op c (Some op) = kept_did c (effect (around code c) c.inside.frame.stack op)

  kept_raised : (c : Context) (ph : Phase) (f : Fault) → IsKept c (raised ph c.inside f)
  kept_raised c Bottom f = refl
  kept_raised c ph f = refl

  kept_in : (c : Context) (o : Option Fault) → IsKept c (next_in code c o)
  kept_in c (Some f) = kept_raised c c.phase f
  kept_in c None = kept_op c (slice_get (ops_of code c.inside.frame.unit) c.inside.frame.at)

  pub place_kept : PlaceIsKept code
  unfolding next_of
  place_kept c = kept_in c c.inside.fault
