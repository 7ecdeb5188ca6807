-- The turns of a closed run, and what is made of them.
use Rattle.std.proofs.Common.{◌≡◌, ◌<◌, ◌≤◌, ℕ, List, [], ◌∷◌, All, length, arith, Some, Result, Ok, Err, IfOk, refl, sym, ap, subst, ◌∙◌}
use Rattle.std.proofs.lemmas.Option.{slice_get_within}
use Rattle.std.proofs.lemmas.List.Elements.{All-cons, All-nil}
use Rattle.want_of_memory.specs.declared.NoMemory.{NoMemory as NoMem}
use Rattle.flow_labels.specs.LabelText.{label_of}
use Rattle.flow_labels.specs.declared.Label.{Label}
use Rattle.lam_bytecode.specs.Codes.{CodeTree}
use Rattle.lam_machine_terms.specs.Worlds.{World}
use Rattle.lam_machine_terms.specs.Turns.{Moment, step, moments}
use Rattle.lam_machine_laws.proofs.TurnLemmas.{acts}
use Rattle.guarded_code_runs.specs.Worlds.{IsSound}
use Rattle.guarded_code_runs.proofs.Sound.{sound_step}
use Rattle.turn_book.specs.Book.{AreTurns}
use Rattle.turn_book.specs.Limits.{last_thread}
use Rattle.closed_terms.specs.declared.End.{End}
use Rattle.closed_terms.specs.declared.Slot.{Slot}
use Rattle.closed_terms.specs.Schedule.{first_slot, after, IsClosed}
use Rattle.closed_terms.specs.Ends.{IsEnded}
use Rattle.closed_laws.specs.Once.{EndsOnce}
use Rattle.lam_main_words.specs.Words.{Text}
use Rattle.lam_main_replay.specs.Status.TheVariants.{Done}
use Rattle.lam_main_replay.specs.Refusals.{Plan}
use Rattle.lam_main_replay.specs.Reading.{Never}
use Rattle.lam_main_replay.specs.Replays.{read_by, ByReader}
use Rattle.lam_main_replay.specs.Books.{ByLabel}
use Rattle.lam_main_replay.proofs.ReadLemmas.{by_no_reader, by_this_reader}
use Rattle.lam_main_replay.proofs.BookLemmas.{label_then, no_label_then}
use Rattle.lam_main_replay.specs.declared.halt.Halt.{Halt}
use Rattle.lam_main_replay.specs.declared.halt.Halt.TheVariants.{Refused, NoMemory, ShelfFailed}
use Rattle.lam_main_replay.specs.Halts.{refuses, Finds}
use Rattle.lam_main_replay.specs.declared.viewer.Viewer.{Viewer}
use Rattle.lam_main_replay.specs.declared.viewer.Viewer.TheVariants.{Observer, Auditor}
use Rattle.lam_main_replay.specs.Asked.{lines_for}
use Rattle.lam_closed_plan.specs.Closes.{Asked, base_word, IsOfClosed, ClosesOver, ClosesFrom}
use Rattle.lam_closed_rooms.specs.declared.texts.Taken.{Taken}
use Rattle.lam_closed_rooms.specs.Taken.{IsShown, planned, Offers}

-- ---- the book

last_is : (t n : ℕ) → t < n → n ≤ 4096 → t ≤ last_thread
last_is t n h k = omega (arith, h, k)

-- a thread that takes a turn is one of the 4,096
thread_is : (code : CodeTree) (w : World) (t : ℕ) (m : Moment) → IsSound code w → step code w t ≡ Some m → t ≤ last_thread
thread_is code w t m sound takes = let a = acts code w t m takes in last_is t (length w.threads) (slice_get_within w.threads t a.thread a.at) sound.valid.number

threads_are : (b : Label) (code : CodeTree) (turns : List ℕ) (w : World) (s : Slot) → IsSound code w → IsClosed b code turns w s → All (λ t. t ≤ last_thread) turns
threads_are b code [] w s sound h = All-nil _
threads_are b code (t ∷ ts) w s sound h =
    All-cons (λ u. u ≤ last_thread) t ts (thread_is code w t h.it sound h.takes) (threads_are b code ts h.it.world (after b h.slot h.it) (sound_step code w t h.it sound h.takes) h.rest)

-- a book can be made of the turns of a closed run that has ended
pub has_book : (b : Label) (code : CodeTree) (n : ℕ) (e : End) (turns : List ℕ) (start : World) → EndsOnce code b → IsSound code start → IsEnded b code n e turns start → AreTurns turns
has_book b code n e turns start once sound ended =
    record { few = once.within n start turns e ended; threads = threads_are b code turns start first_slot sound (once.closed n start turns e ended) }

-- of no turns nothing is shown
pub none_shown : (who : Viewer) (names : List Text) → [] ≡ lines_for who names []
none_shown (Observer label) names = refl
none_shown Auditor names = refl

-- ---- the turns

abbrev plan_of : Text → Text → Text → Plan
plan_of out text bytes = record { status = Done; text = text; writes = Some (out, bytes) }

module _ (code : CodeTree) (start : World) (b : Label) (n : ℕ) (shown : List Moment → Text) (e : End) (turns : List ℕ) (ends : IsEnded b code n e turns start) (text : Text) (same : text ≡ shown (moments code turns start)) where
  closed_of : (taken : Taken) → IsShown e text turns taken → (out : Text) → IsOfClosed code start b n out shown taken.end (planned out taken)
  closed_of taken is out =
      record {
        turns = turns;
        ends = subst (λ (x : End). IsEnded b code n x turns start) (sym is.end_is) ends;
        is = ap (λ (t : Text). plan_of out t taken.book.items) (is.text_is ∙ same) ∙ ap (plan_of out (shown (moments code turns start))) is.book_is;
      }

  -- what is made of the turns, where memory does not run out
  pub closed_shown : (answer : Result Taken NoMem) → IfOk answer (IsShown e text turns) → IfOk answer (λ taken. (out : Text) → IsOfClosed code start b n out shown taken.end (planned out taken))
  closed_shown (Ok taken) is = closed_of taken is
  closed_shown (Err error) is = tt

-- ---- offers

-- what is not found is refused as planned, whatever the name of the book and the end
not_offered : {X : Type 0} (IsIt : X → Type 0) (P : Plan → Type 0) (Q : Text → End → Plan → Type 0) → ((out : Text) (e : End) (p : Plan) → P p → Q out e p) → (halt : Halt) → Finds {X = X} (Err halt) IsIt P → Offers (Err halt) Q
not_offered IsIt P Q f (Refused refusal) h = λ out e. f out e (refuses refusal) h
not_offered IsIt P Q f NoMemory h = tt
not_offered IsIt P Q f ShelfFailed h = tt

offers_map : (P Q : Text → End → Plan → Type 0) → ((out : Text) (e : End) (p : Plan) → P out e p → Q out e p) → (answer : Result Taken Halt) → Offers answer P → Offers answer Q
offers_map P Q f (Ok taken) h = λ out. f out taken.end (planned out taken) (h out)
offers_map P Q f (Err (Refused refusal)) h = λ out e. f out e (refuses refusal) (h out e)
offers_map P Q f (Err NoMemory) h = tt
offers_map P Q f (Err ShelfFailed) h = tt

module _ (asked : Asked) (code : CodeTree) (start : World) (names : List Text) (same : names ≡ start.names) where
  module _ (shown : List Moment → Text) where
    pub base_offers : (text : Text) (b : Label) (taken : Taken) → text ≡ asked.base → label_of names text ≡ Ok b → ((out : Text) → IsOfClosed code start b asked.turns out shown taken.end (planned out taken)) → Offers (Ok taken) (λ out e. ClosesOver out asked e code start shown)
    base_offers text b taken is reads h =
        λ out. label_then base_word (λ x. IsOfClosed code start x asked.turns out shown taken.end) (planned out taken) (label_of start.names asked.base) b
        (sym (ap (λ (ns : List Text). label_of ns asked.base) same) ∙ sym (ap (label_of names) is) ∙ reads) (h out)

    pub no_base_offers : {X : Type 0} (IsIt : X → Type 0) (text : Text) (halt : Halt) → text ≡ asked.base → Finds {X = X} (Err halt) IsIt (ByLabel base_word Never (label_of names text)) → Offers (Err halt) (λ out e. ClosesOver out asked e code start shown)
    no_base_offers IsIt text halt is h =
        not_offered IsIt (ByLabel base_word Never (label_of names text)) (λ out e. ClosesOver out asked e code start shown)
        (λ out e p k. no_label_then base_word (λ b. IsOfClosed code start b asked.turns out shown e) p (label_of start.names asked.base)
        (subst (λ r. ByLabel base_word Never r p) (ap (label_of names) is ∙ ap (λ (ns : List Text). label_of ns asked.base) same) k)) halt h

  pub reader_offers : (shown : List Moment → Text) (answer : Result Taken Halt) → read_by asked.reader names ≡ Ok shown → Offers answer (λ out e. ClosesOver out asked e code start shown) → Offers answer (λ out e. ClosesFrom out asked e code start)
  reader_offers shown answer is h =
      offers_map (λ out e. ClosesOver out asked e code start shown) (λ out e. ClosesFrom out asked e code start)
      (λ out e p k. by_this_reader (ClosesOver out asked e code start) (read_by asked.reader start.names) shown p (sym (ap (read_by asked.reader) same) ∙ is) k) answer h

  pub no_reader_offers : {X : Type 0} (IsIt : X → Type 0) (halt : Halt) → Finds {X = X} (Err halt) IsIt (ByReader Never (read_by asked.reader names)) → Offers (Err halt) (λ out e. ClosesFrom out asked e code start)
  no_reader_offers IsIt halt h =
      not_offered IsIt (ByReader Never (read_by asked.reader names)) (λ out e. ClosesFrom out asked e code start)
      (λ out e p k. by_no_reader (ClosesOver out asked e code start) (read_by asked.reader start.names) p (subst (λ (ns : List Text). ByReader Never (read_by asked.reader ns) p) same k)) halt h
