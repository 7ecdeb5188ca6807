-- Each ask once: its answer is of the form that the ask wants.
use Rattle.std.proofs.Common.{◌≡◌, ℕ, Bool, true, false, cond, List, [], ◌∷◌, Option, Some, None, refl, sym, ap, subst}
use Rattle.std.specs.Prelude.{nat_lt}
use Rattle.flow_labels.specs.declared.Denied.{Denied}
use Rattle.flow_labels.specs.Failing.{Test, first_failing}
use Rattle.lam_value.specs.declared.names.Name.{Name}
use Rattle.lam_value.specs.declared.values.Value.{Value}
use Rattle.lam_value.specs.declared.values.Value.TheVariants.{Obj, Arr, File, Dir}
use Rattle.lam_value.specs.declared.shapes.Shape.{Shape}
use Rattle.lam_value.specs.declared.shapes.Shape.TheVariants.{Class, Array}
use Rattle.labelled_heap.specs.Things.{most_things}
use Rattle.monitor_core.specs.Held.{most_takings, takings}
use Rattle.labelled_files.specs.Entries.{name_of_kind}
use Rattle.labelled_files.specs.Trees.{target_at}
use Rattle.labelled_files.specs.declared.directory.EntryKind.TheVariants as kind
use Rattle.labelled_files.specs.declared.directory.Target.{Target}
use Rattle.labelled_files.specs.declared.files.FileFault.{FileFault}
use Rattle.labelled_files.specs.declared.files.FileFault.TheVariants as file_fault
use Rattle.labelled_pipes.specs.declared.message.Message.{Message}
use Rattle.labelled_pipes.specs.declared.message.Message.TheVariants as message
use Rattle.labelled_pipes.specs.declared.message.MessageKind.TheVariants as sort_of_message
use Rattle.labelled_pipes.specs.Messages.{front_of}
use Rattle.labelled_pipes.specs.Queues.{most_pipes, waiting_at}
use Rattle.lam_asks.specs.declared.fault.Fault.{Fault}
use Rattle.lam_asks.specs.declared.fault.Fault.TheVariants.{HomeFull, Deep, BadName, Exists, DirFull, NoEntry}
use Rattle.lam_asks.specs.declared.answer.Outcome.{Outcome}
use Rattle.lam_asks.specs.declared.answer.Outcome.TheVariants as outcome
use Rattle.lam_asks.specs.declared.answer.Answer.TheVariants.{Val}
use Rattle.lam_value.specs.Homes.{home_of, count_in}
use Rattle.lam_asks.specs.declared.ask.Ask.{Ask}
use Rattle.lam_asks.specs.declared.ask.Ask.TheVariants as ask
use Rattle.lam_asks.specs.Suits as suit
use Rattle.lam_asks.specs.Suits.{Sort, Want, is_of, made_as, copied_as, want_of, is_among, fits}
use Rattle.lam_bytecode.specs.Codes.{CodeTree}
use Rattle.thread_steps.specs.Limits.{depth_limit}
use Rattle.thread_steps.specs.Threads.{Context}
use Rattle.lam_machine_laws.specs.Limits.{most_tags, most_threads}
use Rattle.lam_machine_laws.specs.Worlds.{World, result_at}
use Rattle.lam_machine_laws.specs.Serves.{Served, answers, does, gives_back, unless_denied, under, unless, full, of_thing, at_thing, name_in}
use Rattle.lam_machine_laws.specs.Serving.{reference, renamed, file_faults, where_none, found, absent, received, child_fault, value_of_end, serve}
use Rattle.lam_machine_laws.specs.Turns.{lists}
use Rattle.lam_machine_valid.specs.Laws.{LeadsTo}
use Rattle.lam_machine_valid.proofs.EffectLemmas.{IsThing}
use Rattle.lam_machine_valid.proofs.NextLemmas.{AskIs, ask_is, gives_slot, sets_it}
use Rattle.lam_machine_valid.specs.Suiting.{Joined, with_value, forbidden, without_value, Suits, AnswersSuit}

-- a service's answer is one that is wanted
record Fits (k : Want) (d : Served) : Type 0 where
  it : fits k d.answer ≡ true

-- under a test that may refuse
under_fits : (k : Want) (t : Test) (d : Served) → k.refusable ≡ true → Fits k d → Fits k (under t d)
unfolding under
under_fits k t d may h = record { it = by (first_failing t) }
  where
    by : (x : Option Denied) → fits k (unless_denied x d).answer ≡ true
    by None = h.it
    by (Some x) = may

-- but for a fault that may be
abbrev MayFail : Want → Option Fault → Type 0
MayFail k None = Unit {0}
MayFail k (Some f) = is_among f k.faults ≡ true

unless_fits : (k : Want) (f : Option Fault) (d : Served) → MayFail k f → Fits k d → Fits k (unless f d)
unfolding unless
unless_fits k None d may h = h
unless_fits k (Some f) d may h = record { it = may }

full_may : (k : Want) (n limit : ℕ) (f : Fault) → is_among f k.faults ≡ true → MayFail k (full n limit f)
full_may k n limit f h = by (nat_lt n limit)
  where
    by : (b : Bool) → MayFail k (cond b None (Some f))
    by true = tt
    by false = h

-- a row with a test, with a limit, and without a test
tested_fits : (k : Want) (t : Test) (f : Option Fault) (d : Served) → k.refusable ≡ true → MayFail k f → fits k d.answer ≡ true → fits k (under t (unless f d)).answer ≡ true
tested_fits k t f d may fail h = (under_fits k t _ may (unless_fits k f d fail (record { it = h }))).it

limited : (k : Want) (t : Test) (n limit : ℕ) (f : Fault) (d : Served) → k.refusable ≡ true → is_among f k.faults ≡ true → fits k d.answer ≡ true → fits k (under t (unless (full n limit f) d)).answer ≡ true
limited k t n limit f d may among h = tested_fits k t (full n limit f) d may (full_may k n limit f among) h

untested_fits : (k : Want) (f : Option Fault) (d : Served) → MayFail k f → fits k d.answer ≡ true → fits k (under [] (unless f d)).answer ≡ true
unfolding under
untested_fits k f d may h = (unless_fits k f d may (record { it = h })).it

-- a reference that leads to a thing has the fault of the thing
thing_may : (k : Want) (r : Value) (f : Name → Option Fault) → IsThing r → ((n : Name) → MayFail k (f n)) → MayFail k (at_thing r f)
thing_may k (Obj n) f e h = h n
thing_may k (Arr n len) f e h = h n
thing_may k r f e h = absurd e.1

abbrev made_in : Sort → Want
made_in s = suit.ruled (suit.is_value s) (BadName ∷ Exists ∷ DirFull ∷ HomeFull ∷ [])

file_may : (s : Sort) (x : Option FileFault) → MayFail (made_in s) (file_faults x)
file_may s None = tt
file_may s (Some file_fault.BadName) = refl
file_may s (Some file_fault.Exists) = refl
file_may s (Some file_fault.DirFull) = refl
file_may s (Some file_fault.HomeFull) = refl
file_may s (Some file_fault.NoMemory) = refl

made_fits : (s : Sort) (t : Test) (x : Option FileFault) (d : Served) → fits (made_in s) d.answer ≡ true → Fits (made_in s) (under t (unless (file_faults x) d))
made_fits s t x d h = under_fits (made_in s) t _ refl (unless_fits (made_in s) (file_faults x) d (file_may s x) (record { it = h }))

abbrev opens_in : Sort → Want
opens_in s = suit.ruled (suit.is_value s) (NoEntry ∷ [])

opened_fits : (s : Sort) (t : Test) (refer : Name → Value) (x : Option Name) → ((n : Name) → is_of s (refer n) ≡ true) → Fits (opens_in s) (under t (unless (where_none x NoEntry) (answers (Val (found refer x)))))
unfolding unless
opened_fits s t refer x h = under_fits (opens_in s) t _ refl (by x)
  where
    by : (y : Option Name) → Fits (opens_in s) (unless (where_none y NoEntry) (answers (Val (found refer y))))
    by None = record { it = refl }
    by (Some n) = record { it = h n }

absent_may : (x : Option Target) → MayFail (suit.ruled suit.is_done (NoEntry ∷ [])) (absent x)
absent_may None = refl
absent_may (Some target) = tt

shape_fits : (shape : Shape) (n : Name) → is_of (made_as shape) (reference shape n) ≡ true
shape_fits (Class class fields) n = refl
shape_fits (Array kind len) n = refl

copy_fits : (r : Value) (k n : Name) → LeadsTo r k → is_of (copied_as r) (renamed r n) ≡ true
copy_fits (Obj m) k n e = refl
copy_fits (Arr m len) k n e = refl
copy_fits r k n e = absurd e

bytes_fit : (ms : List Message) → is_of suit.byte_texts (received (front_of sort_of_message.Bytes ms)) ≡ true
bytes_fit [] = refl
bytes_fit (message.Bytes bytes ∷ ms) = refl
bytes_fit (message.Caps caps ∷ ms) = refl

caps_fit : (ms : List Message) → is_of suit.capabilities (received (front_of sort_of_message.Caps ms)) ≡ true
caps_fit [] = refl
caps_fit (message.Bytes bytes ∷ ms) = refl
caps_fit (message.Caps caps ∷ ms) = refl

back_fits : (ns : List Name) (r : Value) → lists ns r ≡ true → fits (suit.always suit.is_done) (under [] (unless (at_thing r (λ n. None)) (does (gives_back (name_in r))))).answer ≡ true
unfolding under unless
back_fits ns (Obj n) h = refl
back_fits ns (Arr n len) h = refl
back_fits ns r h = absurd cc

joined_suits : (x : Option Outcome) → Joined (unless (child_fault x) (answers (Val (value_of_end x)))).answer
unfolding unless
joined_suits None = without_value
joined_suits (Some (outcome.Value v)) = with_value v
joined_suits (Some (outcome.Failed f)) = without_value

under_joined : (t : Test) (d : Served) → Joined d.answer → Joined (under t d).answer
unfolding under
under_joined t d h = by (first_failing t)
  where
    by : (x : Option Denied) → Joined (unless_denied x d).answer
    by None = h
    by (Some x) = forbidden x

module _ (code : CodeTree) (c : Context) (w : World) where
  suits_row : (a : Ask) → AskIs code c a → Suits a (serve w c a).answer
  suits_row (ask.Read r at) h = (_, ap (λ (d : Served). d.answer) (gives_slot c r at h w h.0 h.1))
  suits_row (ask.Write r at v) h = λ s. ap (λ (d : Served). fits (suit.always suit.is_done) d.answer) (sets_it c r v at h w h.0 h.1)
  suits_row (ask.New shape) h = λ s. untested_fits (want_of s (ask.New shape)) (full _ most_things HomeFull) _ (full_may (want_of s (ask.New shape)) _ most_things HomeFull refl) (shape_fits shape _)
  suits_row (ask.CopyTo r l) h = λ s.
      let k = want_of s (ask.CopyTo r l) in
      let fault = λ (n : Name). full (count_in w.heap.counts (home_of c.label l)) most_things HomeFull in
      tested_fits k _ (at_thing r fault) _ refl (thing_may k r fault h (λ n. full_may k (count_in w.heap.counts (home_of c.label l)) most_things HomeFull refl)) (copy_fits r h.0 _ h.1)
  suits_row ask.Mint h = λ s. limited (want_of s ask.Mint) _ _ most_tags HomeFull _ refl refl refl
  suits_row (ask.Enter l k region args) h = λ s. limited (want_of s (ask.Enter l k region args)) _ _ depth_limit Deep _ refl refl refl
  suits_row ask.Leave h = λ s. untested_fits (want_of s ask.Leave) None _ tt refl
  suits_row (ask.Barred denied) h = λ s. untested_fits (want_of s (ask.Barred denied)) None _ tt refl
  suits_row (ask.Caught f) h = λ s. untested_fits (want_of s (ask.Caught f)) None _ tt refl
  suits_row (ask.Suppressed f) h = λ s. untested_fits (want_of s (ask.Suppressed f)) None _ tt refl
  suits_row (ask.End out) h = λ s. untested_fits (want_of s (ask.End out)) None _ tt refl
  suits_row (ask.MonEnter r) h = λ s.
      let k = want_of s (ask.MonEnter r) in
      let fault = λ (n : Name). full (takings w.monitors n) most_takings Deep in
      tested_fits k _ (at_thing r fault) _ refl (thing_may k r fault h (λ n. full_may k (takings w.monitors n) most_takings Deep refl)) refl
  suits_row (ask.MonLeave r) h = λ s. back_fits c.held r h
  suits_row (ask.MakeFile d text l) h = λ s. (made_fits suit.files _ _ _ refl).it
  suits_row (ask.MakeDir d text l) h = λ s. (made_fits suit.directories _ _ _ refl).it
  suits_row (ask.OpenFile d text) h = λ s. (opened_fits suit.files _ (λ n. File n) (name_of_kind kind.File (target_at w.files d text)) (λ n. refl)).it
  suits_row (ask.OpenDir d text) h = λ s. (opened_fits suit.directories _ (λ n. Dir n) (name_of_kind kind.Dir (target_at w.files d text)) (λ n. refl)).it
  suits_row (ask.Remove d text) h = λ s. tested_fits (want_of s (ask.Remove d text)) _ (absent (target_at w.files d text)) _ refl (absent_may (target_at w.files d text)) refl
  suits_row (ask.FileRead f at n) h = λ s. tested_fits (want_of s (ask.FileRead f at n)) _ None _ refl tt refl
  suits_row (ask.FileLength f) h = λ s. tested_fits (want_of s (ask.FileLength f)) _ None _ refl tt refl
  suits_row (ask.Append f bytes) h = λ s. tested_fits (want_of s (ask.Append f bytes)) _ None _ refl tt refl
  suits_row (ask.Cut f len) h = λ s. tested_fits (want_of s (ask.Cut f len)) _ None _ refl tt refl
  suits_row (ask.MakePipe l) h = λ s. limited (want_of s (ask.MakePipe l)) _ _ most_pipes HomeFull _ refl refl refl
  suits_row (ask.Send p bytes) h = λ s. tested_fits (want_of s (ask.Send p bytes)) _ None _ refl tt refl
  suits_row (ask.SendCaps p caps) h = λ s. tested_fits (want_of s (ask.SendCaps p caps)) _ None _ refl tt refl
  suits_row (ask.Receive p) h = λ s. tested_fits (want_of s (ask.Receive p)) _ None _ refl tt (bytes_fit (waiting_at w.pipes p))
  suits_row (ask.ReceiveCaps p) h = λ s. tested_fits (want_of s (ask.ReceiveCaps p)) _ None _ refl tt (caps_fit (waiting_at w.pipes p))
  suits_row (ask.Spawn unit args caps) h = λ s. limited (want_of s (ask.Spawn unit args caps)) _ _ most_threads HomeFull _ refl refl refl
  suits_row (ask.Join u) h = under_joined _ _ (joined_suits (result_at w u))
  suits_row (ask.Say bytes) h = λ s. untested_fits (want_of s (ask.Say bytes)) None _ tt refl

pub all_suit : (code : CodeTree) → AnswersSuit code
all_suit code c a after e w = suits_row code c w a (ask_is code c a after e)
