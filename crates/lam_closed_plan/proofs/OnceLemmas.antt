-- Words and files have at most one plan. A run ends by one end, and a refusal is the same whatever the end would be.
use Rattle.std.proofs.Common.{◌≡◌, ℕ, List, Option, Some, None, Result, Ok, Err, refl, sym, ap, subst, ◌∙◌}
use Rattle.flow_labels.specs.LabelText.{label_of}
use Rattle.flow_labels.specs.declared.Label.{Label}
use Rattle.flow_labels.specs.declared.texts.LabelFault.{LabelFault}
use Rattle.lam_io.specs.Outside.{Files}
use Rattle.lam_front.proofs.Once.{fine_or_broken, one_broken}
use Rattle.lam_front.specs.declared.fault.ProgramFault.{ProgramFault}
use Rattle.lam_front.specs.declared.fault.ProgramFault.TheVariants.{NotUtf8, At, NoMemory as no_memory}
use Rattle.lam_bytecode.specs.Codes.{CodeTree}
use Rattle.thinned_code.specs.Thinned.{thinned}
use Rattle.lam_machine_terms.specs.Worlds.{World}
use Rattle.lam_machine_terms.specs.Turns.{Moment}
use Rattle.lam_machine_runs.specs.Stops.{NotReady, stopped_at}
use Rattle.world_doc_terms.specs.Breaks.{Break, Reading, NotJson, NoMember, BadMember, NoTag, BadPath, PathTwice}
use Rattle.world_doc_terms.specs.Start.{start_of}
use Rattle.turn_book.specs.Reading.{turns_of}
use Rattle.turn_book.specs.declared.BookFault.{BookFault}
use Rattle.turn_book.specs.declared.BookFault.TheVariants.{BadHead, BadLine, SameThread, TooMany, NoMemory as no_memory_of_book}
use Rattle.closed_terms.specs.declared.End.{End}
use Rattle.closed_terms.specs.declared.End.TheVariants.{Done as all_ended}
use Rattle.closed_laws.specs.Once.{EndsOnce}
use Rattle.lam_main_words.specs.Words.{Text}
use Rattle.lam_main_plan.specs.declared.Status.{Status as LamStatus}
use Rattle.lam_main_plan.specs.declared.Status.TheVariants as lam
use Rattle.lam_main_plan.specs.Refusals.{Plan as LamPlan, no_word, no_program, no_code, no_world, no_book, no_turn, absent, too_long}
use Rattle.lam_main_plan.specs.Reading.{IsUnread, HasFile, WithFile, unread, of_file, program_limit, world_limit, book_limit, ByCode, fine, broken, Thins}
use Rattle.lam_main_plan.specs.Replays.{RunFiles, an_observer, read_by, ByReader, ByWorld}
use Rattle.lam_main_plan.specs.Threads.{ThreadFiles}
use Rattle.lam_main_plan.specs.Books.{WithStart, WithRun, ByLabel, ByTurns, WhereReady}
use Rattle.lam_main_plan.proofs.PlanLemmas.{one_bytes, unread_or_of_file, one_made}
use Rattle.lam_closed_words.specs.Words.{Request, run, check, help, request_of}
use Rattle.lam_closed_plan.specs.Outcome.{Plan, ended, ended_plan}
use Rattle.lam_closed_plan.specs.Closes.{observer_word, base_word, Asked, shows_turns, IsOfClosed, ClosesOver, ClosesFrom, ClosesCode, Closes}
use Rattle.lam_closed_plan.specs.Checks as checks
use Rattle.lam_closed_plan.specs.Plan.{IsPlanOf, PlansAreOne}

-- ---- what is no end of a run

abbrev IsNoRun : LamStatus → Type 0
IsNoRun lam.Done = ⊥
IsNoRun status = Unit {0}

same_status : (e e' : End) (status : LamStatus) → IsNoRun status → ended e status ≡ ended e' status
same_status e e' lam.Done h = absurd h
same_status e e' lam.NoMemory h = refl
same_status e e' lam.Words h = refl
same_status e e' lam.Program h = refl
same_status e e' lam.World h = refl
same_status e e' lam.Book h = refl
same_status e e' lam.Missing h = refl
same_status e e' lam.ShelfFault h = refl
same_status e e' lam.SinkFault h = refl
same_status e e' lam.Budget h = refl
same_status e e' lam.AllWait h = refl

no_fault : (f : ProgramFault) → IsNoRun (no_program f).status
no_fault NotUtf8 = tt
no_fault (At flaw at) = tt
no_fault no_memory = tt

no_break : (breach : Break) → IsNoRun (no_world breach).status
no_break NotJson = tt
no_break (NoMember name) = tt
no_break (BadMember name) = tt
no_break (NoTag name) = tt
no_break (BadPath index) = tt
no_break (PathTwice index) = tt

no_line : (f : BookFault) → IsNoRun (no_book f).status
no_line BadHead = tt
no_line (BadLine number) = tt
no_line (SameThread number) = tt
no_line (TooMany number) = tt
no_line no_memory_of_book = tt

-- ---- two plans of one thing that is read are one, where what follows them is

module _ (e e' : End) (p q : LamPlan) where
  abbrev Same : Type 0
  Same = ended_plan e p ≡ ended_plan e' q

  one_refusal : (it : LamPlan) → IsNoRun it.status → p ≡ it → q ≡ it → Same
  one_refusal it h is was =
      ap (ended_plan e) is
      ∙ ap (λ s. let plan : Plan = record { status = s; text = it.text; writes = it.writes } in plan) (same_status e e' it.status h)
      ∙ sym (ap (ended_plan e') was)

  one_unread : (found : Option Text) (name : Text) (limit : ℕ) → IsUnread found name limit p → IsUnread found name limit q → Same
  one_unread None name limit h k = one_refusal (absent name) tt h k
  one_unread (Some bytes) name limit h k = one_refusal (too_long name) tt h.1 k.1

  module _ (found : Option Text) (name : Text) (limit : ℕ) (A B : Text → LamPlan → Type 0) (one : (bytes : Text) → A bytes p → B bytes q → Same) where
    one_there : HasFile found limit (λ bytes. A bytes p) → HasFile found limit (λ bytes. B bytes q) → Same
    one_there h k = one k.bytes (subst (λ (bytes : Text). A bytes p) (one_bytes (sym h.there ∙ k.there)) h.follows) k.follows

    one_file : WithFile found name limit A p → WithFile found name limit B q → Same
    one_file (unread h) (unread k) = one_unread found name limit h k
    one_file (unread h) (of_file k) = absurd (unread_or_of_file found name limit B p q h k)
    one_file (of_file h) (unread k) = absurd (unread_or_of_file found name limit A q p k h)
    one_file (of_file h) (of_file k) = one_there h k

  module _ (A B : CodeTree → LamPlan → Type 0) (one : (code : CodeTree) → A code p → B code q → Same) where
    one_code : (made : Result CodeTree ℕ) → ByCode (λ tree. A (thinned tree)) made p → ByCode (λ tree. B (thinned tree)) made q → Same
    one_code (Ok tree) h k = one (thinned tree) h k
    one_code (Err unit) h k = one_refusal (no_code unit) tt h k

    one_program : (bytes : Text) → Thins A bytes p → Thins B bytes q → Same
    one_program bytes (fine m c h) (fine n d k) = one_code m h (subst (λ (x : Result CodeTree ℕ). ByCode (λ tree. B (thinned tree)) x q) (one_made bytes n m d c) k)
    one_program bytes (fine m c h) (broken f b k) = absurd (fine_or_broken bytes c.program f c.fine b)
    one_program bytes (broken f b h) (fine m c k) = absurd (fine_or_broken bytes c.program f c.fine b)
    one_program bytes (broken f b h) (broken g d k) = one_refusal (no_program g) (no_fault g) (h ∙ ap no_program (one_broken bytes f g b d)) k

  module _ (A B : World → LamPlan → Type 0) (one : (start : World) → A start p → B start q → Same) where
    one_world : (read : Reading World) → ByWorld A read p → ByWorld B read q → Same
    one_world (Ok start) h k = one start h k
    one_world (Err breach) h k = one_refusal (no_world breach) (no_break breach) h k

    one_start : (files : Files) (world : Text) (code : CodeTree) → WithStart files world code A p → WithStart files world code B q → Same
    one_start files world code h k =
        one_file (files world) world world_limit (λ bytes. ByWorld A (start_of bytes code)) (λ bytes. ByWorld B (start_of bytes code)) (λ bytes. one_world (start_of bytes code)) h k

  one_label : (index : ℕ) (A B : Label → LamPlan → Type 0) → ((o : Label) → A o p → B o q → Same) → (read : Result Label LabelFault) → ByLabel index A read p → ByLabel index B read q → Same
  one_label index A B one (Ok o) h k = one o h k
  one_label index A B one (Err fault) h k = one_refusal (no_word index) tt h k

  one_reader : (A B : (List Moment → Text) → LamPlan → Type 0) → ((shown : List Moment → Text) → A shown p → B shown q → Same) → (read : Result (List Moment → Text) ℕ) → ByReader A read p → ByReader B read q → Same
  one_reader A B one (Ok shown) h k = one shown h k
  one_reader A B one (Err index) h k = one_refusal (no_word index) tt h k

  one_ready : (A B : LamPlan → Type 0) → (A p → B q → Same) → (stop : Option NotReady) → WhereReady A stop p → WhereReady B stop q → Same
  one_ready A B one None h k = one h k
  one_ready A B one (Some stop) h k = one_refusal (no_turn stop) tt h k

  one_turns : (A B : List ℕ → LamPlan → Type 0) → ((turns : List ℕ) → A turns p → B turns q → Same) → (read : Result (List ℕ) BookFault) → ByTurns A read p → ByTurns B read q → Same
  one_turns A B one (Ok turns) h k = one turns h k
  one_turns A B one (Err fault) h k = one_refusal (no_book fault) (no_line fault) h k

  -- ---- the closed run

  module _ (once : (code : CodeTree) (b : Label) → EndsOnce code b) where
    one_closed : (code : CodeTree) (start : World) (b : Label) (n : ℕ) (out : Text) (shown : List Moment → Text) → IsOfClosed code start b n out shown e p → IsOfClosed code start b n out shown e' q → Same
    one_closed code start b n out shown h k =
        let same = (once code b).one n start h.turns k.turns e e' h.ends k.ends in
        ap (ended_plan e) (h.is ∙ ap (shows_turns code start out shown) same.0)
        ∙ ap (λ x. ended_plan x (shows_turns code start out shown k.turns)) same.1
        ∙ sym (ap (ended_plan e') k.is)

    one_over : (out : Text) (asked : Asked) (code : CodeTree) (start : World) (shown : List Moment → Text) → ClosesOver out asked e code start shown p → ClosesOver out asked e' code start shown q → Same
    one_over out asked code start shown h k =
        one_label base_word (λ b. IsOfClosed code start b asked.turns out shown e) (λ b. IsOfClosed code start b asked.turns out shown e')
        (λ b. one_closed code start b asked.turns out shown) (label_of start.names asked.base) h k

    one_from : (out : Text) (asked : Asked) (code : CodeTree) (start : World) → ClosesFrom out asked e code start p → ClosesFrom out asked e' code start q → Same
    one_from out asked code start h k =
        one_reader (ClosesOver out asked e code start) (ClosesOver out asked e' code start) (one_over out asked code start) (read_by asked.reader start.names) h k

    one_closes : (files : Files) (program : Text) (files_of : ThreadFiles) (asked : Asked) → WithFile (files program) program program_limit (Closes files files_of asked e) p → WithFile (files program) program program_limit (Closes files files_of asked e') q → Same
    one_closes files program files_of asked h k =
        one_file (files program) program program_limit (Closes files files_of asked e) (Closes files files_of asked e')
        (one_program (ClosesCode files files_of asked e) (ClosesCode files files_of asked e')
        (λ code. one_start (ClosesFrom files_of.out asked e code) (ClosesFrom files_of.out asked e' code) (one_from files_of.out asked code) files files_of.world code)) h k

  -- ---- the check of a book

  one_check_from : (files : Files) (book base : Text) (code : CodeTree) (start : World) → e ≡ e' → checks.ChecksFrom files book base code start p → checks.ChecksFrom files book base code start q → Same
  one_check_from files book base code start same h k =
      let Of : Label → List ℕ → LamPlan → Type 0 = λ b turns. checks.IsOfDeparture code start b turns in
      let Ready : Label → List ℕ → LamPlan → Type 0 = λ b turns. WhereReady (Of b turns) (stopped_at code turns start) in
      let Run : Label → LamPlan → Type 0 = λ b. WithRun files book code start (Of b) in
      one_label checks.base_word Run Run
      (λ b. one_file (files book) book book_limit (λ bytes. ByTurns (Ready b) (turns_of bytes)) (λ bytes. ByTurns (Ready b) (turns_of bytes))
      (λ bytes. one_turns (Ready b) (Ready b)
      (λ turns. one_ready (Of b turns) (Of b turns) (λ l m. ap (ended_plan e) (l ∙ sym m) ∙ ap (λ x. ended_plan x q) same) (stopped_at code turns start)) (turns_of bytes)))
      (label_of start.names base) h k

  one_checks : (files : Files) (program : Text) (asked : RunFiles) (base : Text) → e ≡ e' → WithFile (files program) program program_limit (checks.Checks files asked base) p → WithFile (files program) program program_limit (checks.Checks files asked base) q → Same
  one_checks files program asked base same h k =
      one_file (files program) program program_limit (checks.Checks files asked base) (checks.Checks files asked base)
      (one_program (checks.ChecksCode files asked base) (checks.ChecksCode files asked base)
      (λ code. one_start (checks.ChecksFrom files asked.book base code) (checks.ChecksFrom files asked.book base code)
      (λ start. one_check_from files asked.book base code start same) files asked.world code)) h k

-- ---- every command

module _ (once : (code : CodeTree) (b : Label) → EndsOnce code b) where
  one_plan_of : (r : Result Request ℕ) (files : Files) (p q : Plan) → IsPlanOf r files p → IsPlanOf r files q → p ≡ q
  one_plan_of (Err index) files p q h k = h ∙ sym k
  one_plan_of (Ok (run program world observer out base turns)) files p q h k =
      h.1.same ∙ one_closes h.0 k.0 h.1.of_lam k.1.of_lam once files program (record { world = world; out = out }) (record { reader = an_observer observer_word observer; base = base; turns = turns }) h.1.is k.1.is ∙ sym k.1.same
  one_plan_of (Ok (check program world book base)) files p q h k =
      h.same ∙ one_checks all_ended all_ended h.of_lam k.of_lam files program (record { world = world; book = book }) base refl h.is k.is ∙ sym k.same
  one_plan_of (Ok help) files p q h k = h ∙ sym k

  pub plans_are_one : PlansAreOne
  plans_are_one ws files p q h k = one_plan_of (request_of ws) files p q h k
