-- The contexts of a thread after an answer: what stands in them lives, they are stacked, and the thread has ended where none is left.
use Rattle.std.proofs.Common.{◌≡◌, ℕ, Bool, true, false, cond, List, [], ◌∷◌, Option, refl, sym, ap, ◌∙◌}
use Rattle.std.specs.Prelude.{is_none}
use Rattle.std.specs.List.{AllByRecursion}
use Rattle.flow_labels.specs.declared.Label.{Label}
use Rattle.capabilities.specs.declared.Caps.{Caps}
use Rattle.lam_value.specs.declared.names.Name.{Name}
use Rattle.lam_value.specs.declared.values.Value.{Value}
use Rattle.lam_value.specs.declared.values.Value.TheVariants.{Obj, Arr, Tag, CapV}
use Rattle.lam_asks.specs.declared.fault.Fault.{Fault}
use Rattle.lam_asks.specs.declared.fault.Fault.TheVariants as fault
use Rattle.lam_asks.specs.declared.answer.Outcome.{Outcome}
use Rattle.lam_asks.specs.declared.answer.Answer.{Answer}
use Rattle.lam_asks.specs.declared.answer.Answer.TheVariants.{Done, Entered, Val, Refused, Failed}
use Rattle.lam_asks.specs.declared.ask.Ask.{Ask}
use Rattle.lam_asks.specs.declared.ask.Ask.TheVariants as ask
use Rattle.lam_bytecode.specs.Codes.{CodeTree}
use Rattle.thread_steps.specs.Threads.{Frame, Inside, Context}
use Rattle.thread_steps.specs.Equal.{same_names}
use Rattle.thread_steps.specs.Next.{with_inside, with_caps, with_held, faulted, given, without, held_by, outermost, catching, region_context, gains, done, entered, answered, result_after}
use Rattle.lam_machine_laws.specs.Worlds.{World}
use Rattle.lam_machine_laws.specs.Turns.{is_bottom}
use Rattle.lam_machine_laws.specs.Valid.{IsKnown, AreKnown, Lives, AllLive, OutcomeLives, FrameLives, IsFirst, AreStacked, has_contexts}
use Rattle.lam_machine_laws.proofs.ThreadLemmas.{IsOwn, KeepsOwn, front}
use Rattle.lam_machine_valid.specs.Living.{InsideLives, AskLives}
use Rattle.lam_machine_valid.proofs.TagLemmas.{below_insert, below_union}
use Rattle.lam_machine_valid.proofs.PrivateLemmas.{entered_live}
use Rattle.lam_machine_valid.proofs.HoldLemmas.{IsOwnThing, IsPlaced}
use Rattle.lam_machine_valid.proofs.RowLemmas.{AnswerLives}

-- ---- what stands in the contexts in front

module _ (w : World) (code : CodeTree) where
  pub moved_placed : (c : Context) (i : Inside) → IsPlaced w c → InsideLives w i → IsPlaced w (with_inside c i)
  moved_placed c i p l = record { label = p.label; caps = p.caps; inside = l; held = p.held }

  listing_placed : (c : Context) (i : Inside) (ns : List Name) → IsPlaced w c → InsideLives w i → AllByRecursion (IsOwnThing w c) ns → IsPlaced w (with_held (with_inside c i) ns)
  listing_placed c i ns p l h = record { label = p.label; caps = p.caps; inside = l; held = h }

  faulted_live : (i : Inside) (f : Fault) → InsideLives w i → InsideLives w (faulted i f)
  faulted_live i f l = record { frame = l.frame; callers = l.callers }

  given_live : (c : Context) (i : Inside) (v : Value) → IsPlaced w c → InsideLives w i → Lives w v → IsPlaced w (given c i v)
  given_live c i v p l h = moved_placed c _ p (record { frame = record { locals = l.frame.locals; stack = (h, l.frame.stack) }; callers = l.callers })

  caps_placed : (d : Context) (k : Caps) → IsPlaced w d → AreKnown w k → IsPlaced w (with_caps d k)
  caps_placed d k p h = record { label = p.label; caps = h; inside = p.inside; held = p.held }

  gains_placed : (a : Ask) (v : Value) (d : Context) → IsPlaced w d → Lives w v → IsPlaced w (gains a v d)
  gains_placed ask.Mint (Tag t) d p h = caps_placed d _ p (below_insert w.next_tag d.caps.plus t h p.caps.0, below_insert w.next_tag d.caps.minus t h p.caps.1)
  gains_placed (ask.ReceiveCaps q) (CapV plus minus) d p h = caps_placed d _ p (below_union w.next_tag d.caps.plus plus p.caps.0 h.0, below_union w.next_tag d.caps.minus minus p.caps.1 h.1)
  gains_placed a v d p h = p

  outermost_live : (f : Frame) (fs : List Frame) → FrameLives w f → AllByRecursion (FrameLives w) fs → FrameLives w (outermost f fs)
  outermost_live f [] h k = h
  outermost_live f (g ∷ fs) h k = outermost_live g fs k.0 k.1

  catching_placed : (c : Context) (f : Fault) → IsPlaced w c → IsPlaced w (catching c f)
  catching_placed c f p =
      let o = outermost_live c.inside.frame c.inside.callers p.inside.frame p.inside.callers in
      record { label = p.label; caps = p.caps; inside = record { frame = record { locals = o.locals; stack = (tt, tt) }; callers = tt }; held = tt }

  more_own : (c : Context) (r : Value) (ns : List Name) → Lives w r → IsOwn c.label r → AllByRecursion (IsOwnThing w c) ns → AllByRecursion (IsOwnThing w c) (held_by r (λ n. n ∷ ns) ns)
  more_own c (Obj n) ns l o h = ((l, o), h)
  more_own c (Arr n len) ns l o h = (((l.0, l.1.0), o), h)
  more_own c r ns l o h = h

  without_own : (c : Context) (n : Name) (ns : List Name) → AllByRecursion (IsOwnThing w c) ns → AllByRecursion (IsOwnThing w c) (without n ns)
  without_own c n [] h = tt
  without_own c n (m ∷ ns) h = by (same_names n m) (without_own c n ns h.1)
    where
      by : (b : Bool) → AllByRecursion (IsOwnThing w c) (without n ns) → AllByRecursion (IsOwnThing w c) (cond b ns (m ∷ without n ns))
      by true more = h.1
      by false more = (h.0, more)

  fewer_own : (c : Context) (r : Value) (ns : List Name) → AllByRecursion (IsOwnThing w c) ns → AllByRecursion (IsOwnThing w c) (held_by r (λ n. without n ns) ns)
  fewer_own c (Obj n) ns h = without_own c n ns h
  fewer_own c (Arr n len) ns h = without_own c n ns h
  fewer_own c r ns h = h

  region_placed : (c : Context) (l : Label) (k : Caps) (r : ℕ) (vs : List Value) → IsKnown w l → AreKnown w k → AllLive w vs → IsPlaced w (region_context code c l k r vs)
  region_placed c l k r vs hl hk h = record { label = hl; caps = hk; inside = record { frame = entered_live w code _ vs h; callers = tt }; held = tt }

  -- a monitor that is taken has the acting label
  abbrev OwnTaken : Label → Ask → Type 0
  OwnTaken l (ask.MonEnter r) = IsOwn l r
  OwnTaken l a = Unit {0}

  own_taken : (l : Label) (a : Ask) → KeepsOwn l a Done → OwnTaken l a
  own_taken l (ask.MonEnter r) h = h
  own_taken l a h = tt

  done_placed : (c : Context) (i : Inside) (a : Ask) → IsPlaced w c → InsideLives w i → AskLives w a → OwnTaken c.label a → AllByRecursion (IsPlaced w) (done code c [] i a)
  done_placed c i ask.Leave p l h o = tt
  done_placed c i (ask.Barred d) p l h o = (moved_placed c _ p (faulted_live c.inside fault.Denied p.inside), tt)
  done_placed c i (ask.Caught f) p l h o = (catching_placed c f p, tt)
  done_placed c i (ask.Suppressed f) p l h o = tt
  done_placed c i (ask.End r) p l h o = tt
  done_placed c i (ask.MonEnter r) p l h o = (listing_placed c i _ p l (more_own c r c.held h o p.held), tt)
  done_placed c i (ask.MonLeave r) p l h o = (listing_placed c i _ p l (fewer_own c r c.held p.held), tt)
  done_placed c i a p l h o = (moved_placed c i p l, tt)

  entered_placed : (c : Context) (i : Inside) (a : Ask) → IsPlaced w c → InsideLives w i → AskLives w a → AllByRecursion (IsPlaced w) (entered code c [] i a)
  entered_placed c i (ask.Enter l k r vs) p li h = (region_placed c l k r vs h.0 h.1.0 h.1.1, (moved_placed c i p li, tt))
  entered_placed c i a p li h = (moved_placed c i p li, tt)

  pub front_placed : (c : Context) (i : Inside) (a : Ask) (x : Answer) → IsPlaced w c → InsideLives w i → AskLives w a → AnswerLives w x → KeepsOwn c.label a x → AllByRecursion (IsPlaced w) (front code c i a x)
  front_placed c i a Done p l h k o = done_placed c i a p l h (own_taken c.label a o)
  front_placed c i a Entered p l h k o = entered_placed c i a p l h
  front_placed c i a (Val v) p l h k o = (gains_placed a v (given c i v) (given_live c i v p l k) k, tt)
  front_placed c i a (Refused d) p l h k o = (moved_placed c _ p (faulted_live c.inside fault.Denied p.inside), tt)
  front_placed c i a (Failed f) p l h k o = (moved_placed c _ p (faulted_live c.inside f p.inside), tt)

-- ---- how they are stacked

pub record StandsAs (c d : Context) : Type 0 where
  pub phase : d.phase ≡ c.phase
  pub label : d.label ≡ c.label
  pub depth : d.depth ≡ c.depth

pub instead : (c d : Context) (rest : List Context) → StandsAs c d → AreStacked (c ∷ rest) → AreStacked (d ∷ rest)
instead c d [] e h = record { phase = e.phase ∙ h.phase; label = e.label ∙ h.label; depth = e.depth ∙ h.depth }
instead c d (b ∷ bs) e h = (ap is_bottom e.phase ∙ h.0, h.1)

pub below_stacked : (c : Context) (rest : List Context) → AreStacked (c ∷ rest) → AreStacked rest
below_stacked c [] h = tt
below_stacked c (b ∷ bs) h = h.1

-- one that is no first context stands on another
not_first : (c : Context) → is_bottom c.phase ≡ false → IsFirst c → ⊥
not_first c e h = let is : is_bottom c.phase ≡ true = ap is_bottom h.phase in cc

stands_on : (c : Context) (rest : List Context) → is_bottom c.phase ≡ false → AreStacked (c ∷ rest) → has_contexts rest ≡ true
stands_on c [] e h = absurd (not_first c e h)
stands_on c (b ∷ bs) e h = refl

-- the last is the first context
stands_last : (c : Context) (rest : List Context) → is_bottom c.phase ≡ true → AreStacked (c ∷ rest) → has_contexts rest ≡ false
stands_last c [] e h = refl
stands_last c (b ∷ bs) e h = let is = h.0 in cc

catch_stacked : (c d : Context) (rest : List Context) → is_bottom d.phase ≡ false → is_bottom c.phase ≡ false → AreStacked (c ∷ rest) → AreStacked (d ∷ rest)
catch_stacked c d [] e f h = absurd (not_first c f h)
catch_stacked c d (b ∷ bs) e f h = (e, h.1)

gains_stand : (a : Ask) (v : Value) (c d : Context) → StandsAs c d → StandsAs c (gains a v d)
gains_stand ask.Mint (Tag t) c d s = record { phase = s.phase; label = s.label; depth = s.depth }
gains_stand (ask.ReceiveCaps p) (CapV plus minus) c d s = record { phase = s.phase; label = s.label; depth = s.depth }
gains_stand a v c d s = s

-- what a context may ask by its phase
abbrev pub FitsPhase : Context → Ask → Type 0
FitsPhase c ask.Leave = is_bottom c.phase ≡ false
FitsPhase c (ask.Caught f) = is_bottom c.phase ≡ false
FitsPhase c (ask.Suppressed f) = is_bottom c.phase ≡ false
FitsPhase c (ask.End r) = is_bottom c.phase ≡ true
FitsPhase c a = Unit {0}

-- an end is done
abbrev pub EndsDone : Ask → Answer → Type 0
EndsDone (ask.End r) x = x ≡ Done
EndsDone a x = Unit {0}

module _ (code : CodeTree) (c : Context) (rest : List Context) (i : Inside) (h : AreStacked (c ∷ rest)) where
  done_stacked : (a : Ask) → FitsPhase c a → AreStacked (done code c rest i a)
  done_stacked ask.Leave f = below_stacked c rest h
  done_stacked (ask.Caught g) f = catch_stacked c (catching c g) rest refl f h
  done_stacked (ask.Suppressed g) f = below_stacked c rest h
  done_stacked (ask.End r) f = below_stacked c rest h
  done_stacked a f = instead c _ rest (record { phase = refl; label = refl; depth = refl }) h

  entered_stacked : (a : Ask) → AreStacked (entered code c rest i a)
  entered_stacked (ask.Enter l k r vs) = (refl, instead c (with_inside c i) rest (record { phase = refl; label = refl; depth = refl }) h)
  entered_stacked a = instead c (with_inside c i) rest (record { phase = refl; label = refl; depth = refl }) h

  pub answered_stacked : (a : Ask) (x : Answer) → FitsPhase c a → AreStacked (answered code c rest i a x)
  answered_stacked a Done f = done_stacked a f
  answered_stacked a Entered f = entered_stacked a
  answered_stacked a (Val v) f = instead c (gains a v (given c i v)) rest (gains_stand a v c (given c i v) (record { phase = refl; label = refl; depth = refl })) h
  answered_stacked a (Refused d) f = instead c (with_inside c (faulted c.inside fault.Denied)) rest (record { phase = refl; label = refl; depth = refl }) h
  answered_stacked a (Failed g) f = instead c (with_inside c (faulted c.inside g)) rest (record { phase = refl; label = refl; depth = refl }) h

  -- ---- how the thread ended

  done_ended : (old : Option Outcome) → is_none old ≡ true → (a : Ask) → FitsPhase c a → is_none (result_after old a) ≡ has_contexts (done code c rest i a)
  done_ended old e ask.Leave f = e ∙ sym (stands_on c rest f h)
  done_ended old e (ask.Suppressed g) f = e ∙ sym (stands_on c rest f h)
  done_ended old e (ask.End r) f = sym (stands_last c rest f h)
  done_ended old e a f = e

  goes_on : (old : Option Outcome) → is_none old ≡ true → (a : Ask) (x : Answer) → EndsDone a x → (x ≡ Done → ⊥) → is_none (result_after old a) ≡ true
  goes_on old e (ask.End r) x d other = absurd (other d)
  goes_on old e a x d other = e

  entered_has : (a : Ask) → has_contexts (entered code c rest i a) ≡ true
  entered_has (ask.Enter l k r vs) = refl
  entered_has a = refl

  pub answered_ended : (old : Option Outcome) → is_none old ≡ true → (a : Ask) (x : Answer) → FitsPhase c a → EndsDone a x → is_none (result_after old a) ≡ has_contexts (answered code c rest i a x)
  answered_ended old e a Done f d = done_ended old e a f
  answered_ended old e a Entered f d = goes_on old e a Entered d (λ q. cc) ∙ sym (entered_has a)
  answered_ended old e a (Val v) f d = goes_on old e a (Val v) d (λ q. cc)
  answered_ended old e a (Refused x) f d = goes_on old e a (Refused x) d (λ q. cc)
  answered_ended old e a (Failed g) f d = goes_on old e a (Failed g) d (λ q. cc)

pub result_lives : (w : World) (old : Option Outcome) → OutcomeLives w old → (a : Ask) → AskLives w a → OutcomeLives w (result_after old a)
result_lives w old h (ask.End r) l = l
result_lives w old h a l = h
