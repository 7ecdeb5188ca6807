-- Words and files have at most one plan.
use Rattle.std.proofs.Common.{◌≡◌, ◌<◌, ◌≤◌, ℕ, Bool, true, false, List, length, Option, Some, None, Result, Ok, Err, codes, refl, sym, ap, subst, ◌∙◌, arith}
use Rattle.lam_io.specs.Outside.{Files}
use Rattle.lam_print.specs.Canon.{canon}
use Rattle.lam_front.proofs.Once.{one_spelt, spelt_or_misspelt, one_misspelt, fine_or_broken, one_broken}
use Rattle.lam_syntax.specs.Tree.{ProgramTree}
use Rattle.run_inputs.specs.Compiled.{IsCompiledTo}
use Rattle.run_inputs.proofs.CompiledOnce.{one_compiled}
use Rattle.lam_bytecode.specs.Codes.{CodeTree}
use Rattle.thinned_code.specs.Thinned.{thinned}
use Rattle.lam_bytecode.specs.Listing.{listing_text}
use Rattle.lam_machine_terms.specs.Worlds.{World}
use Rattle.lam_machine_terms.specs.Turns.{Moment}
use Rattle.lam_machine_runs.specs.declared.How.{How}
use Rattle.lam_machine_runs.specs.declared.How.TheVariants as how
use Rattle.lam_make.specs.Made.{program_text, world_text}
use Rattle.audit_log.specs.Sums.{summary_lines}
use Rattle.world_doc_terms.specs.Breaks.{Reading}
use Rattle.world_doc_terms.specs.Start.{start_of}
use Rattle.lam_front.specs.Programs.{IsFine}
use Rattle.lam_main_words.specs.Words.{Text, Request, play, check, format, code, replay, run, audit, make, help, next, pair, walk, request_of}
use Rattle.lam_main_plan.specs.Refusals.{Plan, prints, no_program}
use Rattle.lam_main_plan.specs.Reading.{IsUnread, HasFile, WithFile, unread, of_file, script_limit, program_limit, world_limit, book_limit, IsCompiled, ByCode, Compiles, fine, broken, Thins}
use Rattle.lam_main_plan.specs.Replays.{Reader, an_observer, an_auditor, RunFiles, read_by, IsOfBook, ByReader, ByWorld, Replays, Starts, Runs}
use Rattle.lam_main_plan.specs.Threads.{status_of, IsOfThreads, ThreadFiles, TakesTurns, StartsThreads, RunsThreads, made_budget, Makes}
use Rattle.flow_labels.specs.LabelText.{label_of}
use Rattle.flow_labels.specs.declared.Label.{Label}
use Rattle.flow_labels.specs.declared.texts.LabelFault.{LabelFault}
use Rattle.turn_book.specs.Reading.{turns_of}
use Rattle.turn_book.specs.declared.BookFault.{BookFault}
use Rattle.lam_machine_terms.specs.Turns.{moments, replay as replayed}
use Rattle.lam_machine_runs.specs.Stops.{NotReady, stopped_at}
use Rattle.pair_check_terms.specs.declared.answer.PairAnswer.{PairAnswer}
use Rattle.pair_check_terms.proofs.PairLemmas.{one_answer}
use Rattle.lam_main_plan.specs.Books.{WithStart, WithRun, ByLabel, ByTurns, WhereReady}
use Rattle.lam_main_plan.specs.Pairs.{pair_line, IsOfPair, PairsWith, PairsRuns, Pairs}
use Rattle.capabilities.specs.declared.Caps.{Caps}
use Rattle.labelled_files.specs.Trees.{Tree}
use Rattle.lam_main_plan.specs.Saves.{IsOfFiles, IsOfEnd, SavesRun, Saves}
use Rattle.lam_main_plan.specs.Walks.{same_line, IsOfWalk, WalksRun, Walks}
use Rattle.lam_main_plan.specs.Plan.{Plays, Formats, canonical, misspelt, Checks, Lists, IsPlanOf, starts_threads, LeavesNoDigits, PlansAreOne, IsRefused, RefusalsAreOne}
use Rattle.lam_main_plan.proofs.SaveOnce.{refused_once, one_saved}

pub one_bytes : {bs cs : Text} → Some bs ≡ Some cs → bs ≡ cs
one_bytes e = cc

none_there : {bs : Text} → ◌≡◌ {A = Option Text} None (Some bs) → ⊥
none_there e = cc

longer : (bs cs : Text) (limit : ℕ) → Some bs ≡ Some cs → limit < length bs → length cs ≤ limit → ⊥
longer bs cs limit e h k = let l : length bs ≡ length cs = ap length (one_bytes e) in omega (arith, h, k, l)

pub unread_or_of_file : (found : Option Text) (name : Text) (limit : ℕ) (IsOf : Text → Plan → Type 0) (p q : Plan) → IsUnread found name limit p → HasFile found limit (λ bytes. IsOf bytes q) → ⊥
unread_or_of_file None name limit IsOf p q h k = none_there k.there
unread_or_of_file (Some bytes) name limit IsOf p q h k = longer bytes k.bytes limit k.there h.0 k.short

one_fine : (bytes : Text) (p q : ProgramTree) → IsFine bytes p → IsFine bytes q → p ≡ q
one_fine bytes p q h k = one_spelt bytes p q h.spelt k.spelt

pub one_made : (bytes : Text) (m n : Result CodeTree ℕ) → IsCompiled bytes m → IsCompiled bytes n → m ≡ n
one_made bytes m n h k = one_compiled k.program m n (subst (λ p. IsCompiledTo p m) (one_fine bytes h.program k.program h.fine k.fine) h.makes) k.makes

-- ---- two plans of one thing that is read are one, where what follows them is

module _ (p q : Plan) where
  one_equal : (it : Plan) → p ≡ it → q ≡ it → p ≡ q
  one_equal it h k = h ∙ sym k

  one_unread : (found : Option Text) (name : Text) (limit : ℕ) → IsUnread found name limit p → IsUnread found name limit q → p ≡ q
  one_unread None name limit h k = h ∙ sym k
  one_unread (Some bytes) name limit h k = h.1 ∙ sym k.1

  one_of_file : (found : Option Text) (limit : ℕ) (IsOf : Text → Plan → Type 0) → ((bytes : Text) → found ≡ Some bytes → IsOf bytes p → IsOf bytes q → p ≡ q) → HasFile found limit (λ bytes. IsOf bytes p) → HasFile found limit (λ bytes. IsOf bytes q) → p ≡ q
  one_of_file found limit IsOf one h k = one k.bytes k.there (subst (λ (bs : Text). IsOf bs p) (one_bytes (sym h.there ∙ k.there)) h.follows) k.follows

  -- what follows may ask which file it is
  one_with_this_file : (found : Option Text) (name : Text) (limit : ℕ) (IsOf : Text → Plan → Type 0) → ((bytes : Text) → found ≡ Some bytes → IsOf bytes p → IsOf bytes q → p ≡ q) → WithFile found name limit IsOf p → WithFile found name limit IsOf q → p ≡ q
  one_with_this_file found name limit IsOf one (unread h) (unread k) = one_unread found name limit h k
  one_with_this_file found name limit IsOf one (unread h) (of_file k) = absurd (unread_or_of_file found name limit IsOf p q h k)
  one_with_this_file found name limit IsOf one (of_file h) (unread k) = absurd (unread_or_of_file found name limit IsOf q p k h)
  one_with_this_file found name limit IsOf one (of_file h) (of_file k) = one_of_file found limit IsOf one h k

  one_with_file : (found : Option Text) (name : Text) (limit : ℕ) (IsOf : Text → Plan → Type 0) → ((bytes : Text) → IsOf bytes p → IsOf bytes q → p ≡ q) → WithFile found name limit IsOf p → WithFile found name limit IsOf q → p ≡ q
  one_with_file found name limit IsOf one h k = one_with_this_file found name limit IsOf (λ bytes there. one bytes) h k

  one_plays : (observer bytes : Text) → Plays observer bytes p → Plays observer bytes q → p ≡ q
  one_plays observer bytes h k = h ∙ sym k

  one_formats : (bytes : Text) → Formats bytes p → Formats bytes q → p ≡ q
  one_formats bytes (canonical t s e) (canonical u r d) = e ∙ ap (λ x. prints (canon x)) (one_spelt bytes t u s r) ∙ sym d
  one_formats bytes (canonical t s e) (misspelt f m d) = absurd (spelt_or_misspelt bytes t f s m)
  one_formats bytes (misspelt f m e) (canonical t s d) = absurd (spelt_or_misspelt bytes t f s m)
  one_formats bytes (misspelt f m e) (misspelt g n d) = e ∙ ap no_program (one_misspelt bytes f g m n) ∙ sym d

  one_by_code : (IsOf : CodeTree → Plan → Type 0) → ((tree : CodeTree) → IsOf tree p → IsOf tree q → p ≡ q) → (made : Result CodeTree ℕ) → ByCode IsOf made p → ByCode IsOf made q → p ≡ q
  one_by_code IsOf one (Ok tree) h k = one tree h k
  one_by_code IsOf one (Err unit) h k = h ∙ sym k

  one_compiles : (IsOf : CodeTree → Plan → Type 0) → ((tree : CodeTree) → IsOf tree p → IsOf tree q → p ≡ q) → (bytes : Text) → Compiles IsOf bytes p → Compiles IsOf bytes q → p ≡ q
  one_compiles IsOf one bytes (fine m c h) (fine n d k) = one_by_code IsOf one m h (subst (λ (x : Result CodeTree ℕ). ByCode IsOf x q) (sym (one_made bytes m n c d)) k)
  one_compiles IsOf one bytes (fine m c h) (broken f b k) = absurd (fine_or_broken bytes c.program f c.fine b)
  one_compiles IsOf one bytes (broken f b h) (fine m c k) = absurd (fine_or_broken bytes c.program f c.fine b)
  one_compiles IsOf one bytes (broken f b h) (broken g d k) = h ∙ ap no_program (one_broken bytes f g b d) ∙ sym k

  one_thins : (IsOf : CodeTree → Plan → Type 0) → ((tree : CodeTree) → IsOf tree p → IsOf tree q → p ≡ q) → (bytes : Text) → Thins IsOf bytes p → Thins IsOf bytes q → p ≡ q
  one_thins IsOf one bytes h k = one_compiles (λ tree. IsOf (thinned tree)) (λ tree. one (thinned tree)) bytes h k

  one_by_reader : (IsOf : (List Moment → Text) → Plan → Type 0) → ((shown : List Moment → Text) → IsOf shown p → IsOf shown q → p ≡ q) → (shown : Result (List Moment → Text) ℕ) → ByReader IsOf shown p → ByReader IsOf shown q → p ≡ q
  one_by_reader IsOf one (Ok shown) h k = one shown h k
  one_by_reader IsOf one (Err index) h k = h ∙ sym k

  one_by_world : (IsOf : World → Plan → Type 0) → ((start : World) → IsOf start p → IsOf start q → p ≡ q) → (read : Reading World) → ByWorld IsOf read p → ByWorld IsOf read q → p ≡ q
  one_by_world IsOf one (Ok start) h k = one start h k
  one_by_world IsOf one (Err breach) h k = h ∙ sym k

  -- ---- the run of a book

  module _ (files : Files) where
    one_of_book : (book : Text) (tree : CodeTree) (start : World) (shown : List Moment → Text) → WithFile (files book) book book_limit (IsOfBook tree start shown) p → WithFile (files book) book book_limit (IsOfBook tree start shown) q → p ≡ q
    one_of_book book tree start shown h k = one_with_file (files book) book book_limit (IsOfBook tree start shown) (λ bytes l m. l ∙ sym m) h k

    one_replays : (book : Text) (reader : Reader) (tree : CodeTree) (start : World) → Replays files book reader tree start p → Replays files book reader tree start q → p ≡ q
    one_replays book reader tree start h k = one_by_reader (λ shown. WithFile (files book) book book_limit (IsOfBook tree start shown)) (one_of_book book tree start) (read_by reader start.names) h k

    one_starts : (asked : RunFiles) (reader : Reader) (tree : CodeTree) → Starts files asked reader tree p → Starts files asked reader tree q → p ≡ q
    one_starts asked reader tree h k =
        one_with_file (files asked.world) asked.world world_limit (λ bytes. ByWorld (Replays files asked.book reader tree) (start_of bytes tree))
        (λ bytes. one_by_world (Replays files asked.book reader tree) (one_replays asked.book reader tree) (start_of bytes tree)) h k

    one_runs : (asked : RunFiles) (reader : Reader) (bytes : Text) → Runs files asked reader bytes p → Runs files asked reader bytes q → p ≡ q
    one_runs asked reader bytes h k = one_thins (Starts files asked reader) (one_starts asked reader) bytes h k

  -- ---- what goes on from the turns of a book

  one_by_label : (index : ℕ) (IsOf : Label → Plan → Type 0) → ((o : Label) → IsOf o p → IsOf o q → p ≡ q) → (read : Result Label LabelFault) → ByLabel index IsOf read p → ByLabel index IsOf read q → p ≡ q
  one_by_label index IsOf one (Ok o) h k = one o h k
  one_by_label index IsOf one (Err fault) h k = h ∙ sym k

  one_where_ready : (Is : Plan → Type 0) → (Is p → Is q → p ≡ q) → (stop : Option NotReady) → WhereReady Is stop p → WhereReady Is stop q → p ≡ q
  one_where_ready Is one None h k = one h k
  one_where_ready Is one (Some stop) h k = h ∙ sym k

  one_by_turns : (IsOf : List ℕ → Plan → Type 0) → ((turns : List ℕ) → IsOf turns p → IsOf turns q → p ≡ q) → (read : Result (List ℕ) BookFault) → ByTurns IsOf read p → ByTurns IsOf read q → p ≡ q
  one_by_turns IsOf one (Ok turns) h k = one turns h k
  one_by_turns IsOf one (Err fault) h k = h ∙ sym k

  module _ (files : Files) where
    one_with_start : (world : Text) (tree : CodeTree) (IsOf : World → Plan → Type 0) → ((start : World) → IsOf start p → IsOf start q → p ≡ q) → WithStart files world tree IsOf p → WithStart files world tree IsOf q → p ≡ q
    one_with_start world tree IsOf one h k =
        one_with_file (files world) world world_limit (λ bytes. ByWorld IsOf (start_of bytes tree)) (λ bytes. one_by_world IsOf one (start_of bytes tree)) h k

    one_with_run : (book : Text) (tree : CodeTree) (start : World) (IsOf : List ℕ → Plan → Type 0) → ((turns : List ℕ) → IsOf turns p → IsOf turns q → p ≡ q) → WithRun files book tree start IsOf p → WithRun files book tree start IsOf q → p ≡ q
    one_with_run book tree start IsOf one h k =
        let Ready : List ℕ → Plan → Type 0 = λ turns. WhereReady (IsOf turns) (stopped_at tree turns start) in
        one_with_file (files book) book book_limit (λ bytes. ByTurns Ready (turns_of bytes))
        (λ bytes. one_by_turns Ready (λ turns. one_where_ready (IsOf turns) (one turns) (stopped_at tree turns start)) (turns_of bytes)) h k

    one_of_pair : (tree : CodeTree) (o : Label) (s : World) (turns : List ℕ) (s' : World) (turns' : List ℕ) → IsOfPair tree o s turns s' turns' p → IsOfPair tree o s turns s' turns' q → p ≡ q
    one_of_pair tree o s turns s' turns' h k =
        h.is ∙ ap (λ (answer : PairAnswer). prints (pair_line answer)) (one_answer o s s' (moments tree turns s) (moments tree turns' s') h.answer k.answer h.paired k.paired) ∙ sym k.is

    one_pairs_with : (second : RunFiles) (tree : CodeTree) (o : Label) (s : World) (turns : List ℕ) → PairsWith files second tree o s turns p → PairsWith files second tree o s turns q → p ≡ q
    one_pairs_with second tree o s turns h k =
        one_with_start second.world tree (λ s'. WithRun files second.book tree s' (λ turns'. IsOfPair tree o s turns s' turns'))
        (λ s'. one_with_run second.book tree s' (λ turns'. IsOfPair tree o s turns s' turns') (one_of_pair tree o s turns s')) h k

    one_pair : (first second : RunFiles) (index : ℕ) (label : Text) (tree : CodeTree) → PairsRuns files first second index label tree p → PairsRuns files first second index label tree q → p ≡ q
    one_pair first second index label tree h k =
        let IsBy : World → Label → Plan → Type 0 = λ s o. WithRun files first.book tree s (PairsWith files second tree o s) in
        one_with_start first.world tree (λ s. ByLabel index (IsBy s) (label_of s.names label))
        (λ s. one_by_label index (IsBy s) (λ o. one_with_run first.book tree s (PairsWith files second tree o s) (one_pairs_with second tree o s)) (label_of s.names label)) h k

    one_pairs : (first second : RunFiles) (index : ℕ) (label bytes : Text) → Pairs files first second index label bytes p → Pairs files first second index label bytes q → p ≡ q
    one_pairs first second index label bytes h k = one_thins (PairsRuns files first second index label) (one_pair first second index label) bytes h k

    -- how many asks stand in a run, the source does not say
    one_of_walk : (bytes : Text) (tree : CodeTree) (start : World) (turns : List ℕ) → IsOfWalk bytes tree start turns p → IsOfWalk bytes tree start turns q → p ≡ q
    one_of_walk bytes tree start turns h k = h.tells.is ∙ ap (λ (asks : ℕ). prints (same_line asks)) (h.tells.walked.1 ∙ sym k.tells.walked.1) ∙ sym k.tells.is

    one_walk : (asked : RunFiles) (bytes : Text) (tree : CodeTree) → WalksRun files asked bytes tree p → WalksRun files asked bytes tree q → p ≡ q
    one_walk asked bytes tree h k =
        one_with_start asked.world tree (λ start. WithRun files asked.book tree start (IsOfWalk bytes tree start))
        (λ start. one_with_run asked.book tree start (IsOfWalk bytes tree start) (one_of_walk bytes tree start)) h k

    one_walks : (asked : RunFiles) (bytes : Text) → Walks files asked bytes p → Walks files asked bytes q → p ≡ q
    one_walks asked bytes h k = one_thins (WalksRun files asked bytes) (one_walk asked bytes) bytes h k

  -- ---- a run whose turns threads take

  -- plans of runs of one code from one start are one
  abbrev RunsAreOne : Type 0
  RunsAreOne = (tree : CodeTree) (start : World) (out : Text) (budget : ℕ) (shown : List Moment → Text) → IsOfThreads tree start out budget shown p → IsOfThreads tree start out budget shown q → p ≡ q

  module _ (files : Files) (one : RunsAreOne) where
    one_takes : (out : Text) (budget : ℕ) (reader : Reader) (tree : CodeTree) (start : World) → TakesTurns out budget reader tree start p → TakesTurns out budget reader tree start q → p ≡ q
    one_takes out budget reader tree start h k = one_by_reader (IsOfThreads tree start out budget) (one tree start out budget) (read_by reader start.names) h k

    one_threads : (asked : ThreadFiles) (budget : ℕ) (reader : Reader) (tree : CodeTree) → StartsThreads files asked budget reader tree p → StartsThreads files asked budget reader tree q → p ≡ q
    one_threads asked budget reader tree h k =
        one_with_file (files asked.world) asked.world world_limit (λ bytes. ByWorld (TakesTurns asked.out budget reader tree) (start_of bytes tree))
        (λ bytes. one_by_world (TakesTurns asked.out budget reader tree) (one_takes asked.out budget reader tree) (start_of bytes tree)) h k

    one_run : (asked : ThreadFiles) (budget : ℕ) (reader : Reader) (bytes : Text) → RunsThreads files asked budget reader bytes p → RunsThreads files asked budget reader bytes q → p ≡ q
    one_run asked budget reader bytes h k = one_thins (StartsThreads files asked budget reader) (one_threads asked budget reader) bytes h k

    one_makes : (seed threads : ℕ) (out : Text) → Makes seed threads out p → Makes seed threads out q → p ≡ q
    one_makes seed threads out h k =
        let OfStart : CodeTree → World → Plan → Type 0 = λ tree start. IsOfThreads tree start out made_budget (summary_lines seed threads) in
        one_thins (λ tree. ByWorld (OfStart tree) (start_of (world_text seed threads) tree))
        (λ tree. one_by_world (OfStart tree) (λ start. one tree start out made_budget (summary_lines seed threads)) (start_of (world_text seed threads) tree)) program_text h k

  -- ---- the files at the end of a run

  -- plans of files are one, where the older document is this file
  abbrev SavesAreOne : Option Text → Type 0
  SavesAreOne found = (old : Text) → found ≡ Some old → (out : Text) (names : List Text) (public : Caps) (t : Tree) → IsOfFiles out old names public t p → IsOfFiles out old names public t q → p ≡ q

  module _ (files : Files) where
    one_save : (asked : RunFiles) → SavesAreOne (files asked.world) → (out : Text) (tree : CodeTree) → SavesRun files asked out tree p → SavesRun files asked out tree q → p ≡ q
    one_save asked one out tree h k =
        let OfStart : Text → World → Plan → Type 0 = λ old start. WithRun files asked.book tree start (IsOfEnd out tree old start) in
        one_with_this_file (files asked.world) asked.world world_limit (λ old. ByWorld (OfStart old) (start_of old tree))
        (λ old there. one_by_world (OfStart old)
        (λ start. one_with_run files asked.book tree start (IsOfEnd out tree old start)
        (λ turns. one old there out start.names start.public (replayed tree turns start).files)) (start_of old tree)) h k

    one_saves : (asked : RunFiles) → SavesAreOne (files asked.world) → (out bytes : Text) → Saves files asked out bytes p → Saves files asked out bytes q → p ≡ q
    one_saves asked one out bytes h k = one_thins (SavesRun files asked out) (one_save asked one out) bytes h k

  -- ---- every command

  -- of what writes a world, the document of the start is asked for
  abbrev WhereSaved : Result Request ℕ → Files → Type 0
  WhereSaved (Ok (next program world book out)) files = SavesAreOne (files world)
  WhereSaved r files = Unit {0}

  one_plan_of : (r : Result Request ℕ) (files : Files) → (starts_threads r ≡ true → RunsAreOne) → WhereSaved r files → IsPlanOf r files p → IsPlanOf r files q → p ≡ q
  one_plan_of (Err index) files one save h k = h ∙ sym k
  one_plan_of (Ok (play file observer)) files one save h k = one_with_file (files file) file script_limit (Plays observer) (one_plays observer) h k
  one_plan_of (Ok (check file)) files one save h k = one_with_file (files file) file program_limit Checks (one_compiles (λ tree p. p ≡ prints (codes "ok\n")) (λ tree. one_equal (prints (codes "ok\n")))) h k
  one_plan_of (Ok (format file)) files one save h k = one_with_file (files file) file program_limit Formats one_formats h k
  one_plan_of (Ok (code file)) files one save h k = one_with_file (files file) file program_limit Lists (one_compiles (λ tree p. p ≡ prints (listing_text tree)) (λ tree. one_equal (prints (listing_text tree)))) h k
  one_plan_of (Ok (replay program world book label)) files one save h k = one_with_file (files program) program program_limit (Runs files (record { world = world; book = book }) (an_observer 4 label)) (one_runs files (record { world = world; book = book }) (an_observer 4 label)) h k
  one_plan_of (Ok (run program world label out workers budget)) files one save h k = one_with_file (files program) program program_limit (RunsThreads files (record { world = world; out = out }) budget (an_observer 3 label)) (one_run files (one refl) (record { world = world; out = out }) budget (an_observer 3 label)) h k
  one_plan_of (Ok (audit program world book)) files one save h k = one_with_file (files program) program program_limit (Runs files (record { world = world; book = book }) an_auditor) (one_runs files (record { world = world; book = book }) an_auditor) h k
  one_plan_of (Ok (make seed threads out)) files one save h k = one_makes files (one refl) seed threads out h k
  one_plan_of (Ok help) files one save h k = h ∙ sym k
  one_plan_of (Ok (next program world book out)) files one save h k = one_with_file (files program) program program_limit (Saves files (record { world = world; book = book }) out) (one_saves files (record { world = world; book = book }) save out) h k
  one_plan_of (Ok (pair program first_world first_book second_world second_book label)) files one save h k = one_with_file (files program) program program_limit (Pairs files (record { world = first_world; book = first_book }) (record { world = second_world; book = second_book }) 6 label) (one_pairs files (record { world = first_world; book = first_book }) (record { world = second_world; book = second_book }) 6 label) h k
  one_plan_of (Ok (walk program world book)) files one save h k = one_with_file (files program) program program_limit (Walks files (record { world = world; book = book })) (one_walks files (record { world = world; book = book })) h k

not_both : (b : Bool) → b ≡ false → b ≡ true → ⊥
not_both true none some = cc
not_both false none some = cc

-- where no digits are left to the writer
told_saved : (p q : Plan) (r : Result Request ℕ) (files : Files) → LeavesNoDigits r files → WhereSaved p q r files
told_saved p q (Ok (next program world book out)) files whole = λ old there out names public t. one_saved p q out old names public t (whole old there)
told_saved p q (Err index) files whole = tt
told_saved p q (Ok (play file observer)) files whole = tt
told_saved p q (Ok (check file)) files whole = tt
told_saved p q (Ok (format file)) files whole = tt
told_saved p q (Ok (code file)) files whole = tt
told_saved p q (Ok (replay program world book label)) files whole = tt
told_saved p q (Ok (run program world label out workers budget)) files whole = tt
told_saved p q (Ok (audit program world book)) files whole = tt
told_saved p q (Ok (make seed threads out)) files whole = tt
told_saved p q (Ok help) files whole = tt
told_saved p q (Ok (pair program first_world first_book second_world second_book label)) files whole = tt
told_saved p q (Ok (walk program world book)) files whole = tt

pub plans_are_one : PlansAreOne
plans_are_one ws files p q tells h k =
    one_plan_of p q (request_of ws) files (λ some. absurd (not_both (starts_threads (request_of ws)) tells.turns some)) (told_saved p q (request_of ws) files tells.digits) h k

-- ---- a refusal

no_end : (ended : How) → IsRefused (status_of ended) → ⊥
no_end how.Done refused = refused
no_end how.AllWait refused = refused
no_end how.Budget refused = refused

no_run : (tree : CodeTree) (start : World) (out : Text) (budget : ℕ) (shown : List Moment → Text) (p : Plan) → IsRefused p.status → IsOfThreads tree start out budget shown p → ⊥
no_run tree start out budget shown p refused h = no_end h.ended (subst (λ (it : Plan). IsRefused it.status) h.is refused)

refused_saved : (p q : Plan) → IsRefused p.status → (r : Result Request ℕ) (files : Files) → WhereSaved p q r files
refused_saved p q refused (Ok (next program world book out)) files = λ old there out names public t. refused_once p q out old names public t refused
refused_saved p q refused (Err index) files = tt
refused_saved p q refused (Ok (play file observer)) files = tt
refused_saved p q refused (Ok (check file)) files = tt
refused_saved p q refused (Ok (format file)) files = tt
refused_saved p q refused (Ok (code file)) files = tt
refused_saved p q refused (Ok (replay program world book label)) files = tt
refused_saved p q refused (Ok (run program world label out workers budget)) files = tt
refused_saved p q refused (Ok (audit program world book)) files = tt
refused_saved p q refused (Ok (make seed threads out)) files = tt
refused_saved p q refused (Ok help) files = tt
refused_saved p q refused (Ok (pair program first_world first_book second_world second_book label)) files = tt
refused_saved p q refused (Ok (walk program world book)) files = tt

pub refusals_are_one : RefusalsAreOne
refusals_are_one ws files p q refused h k =
    one_plan_of p q (request_of ws) files (λ some tree start out budget shown l m. absurd (no_run tree start out budget shown p refused l))
    (refused_saved p q refused (request_of ws) files) h k
