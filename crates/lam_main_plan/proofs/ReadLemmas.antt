-- From what was read to the plan that follows, one thing after another.
use Rattle.std.proofs.Common.{◌≡◌, ℕ, List, Option, Result, Ok, Err, sym, subst}
use Rattle.lam_io.specs.Outside.{Files, AllStay}
use Rattle.lam_bytecode.specs.Codes.{CodeTree}
use Rattle.thinned_code.specs.Thinned.{thinned}
use Rattle.lam_machine_terms.specs.Worlds.{World}
use Rattle.lam_machine_terms.specs.Turns.{Moment}
use Rattle.world_doc_terms.specs.Breaks.{Reading}
use Rattle.world_doc_terms.specs.Start.{start_of}
use Rattle.lam_main_words.specs.Words.{Text}
use Rattle.lam_main_plan.specs.Refusals.{Plan}
use Rattle.lam_main_plan.specs.Reading.{HasFile, WithFile, unread, of_file, Never, program_limit, world_limit, book_limit, IsCompiled, ByCode, Compiles, fine, broken, IsRunCode, Thins}
use Rattle.lam_main_plan.specs.Replays.{Reader, RunFiles, read_by, IsOfBook, ByReader, ByWorld, NoStart, Replays, Starts}

-- ---- files

-- where no file changed, the files are the same
pub same_files : (old new : Files) → AllStay old new → new ≡ old
same_files old new stay = λ i. λ name. stay name i

pub stays_on : (old between new : Files) → AllStay old between → AllStay between new → AllStay old new
stays_on old between new one two = λ name. subst (λ (files : Files). new name ≡ files name) (same_files old between one) (two name)

module _ (found : Option Text) (name : Text) (limit : ℕ) (IsOf Is : Text → Plan → Type 0) (p : Plan) where
  pub file_map : ((bytes : Text) → IsOf bytes p → Is bytes p) → WithFile found name limit IsOf p → WithFile found name limit Is p
  file_map f (unread h) = unread h
  file_map f (of_file h) = of_file (record { bytes = h.bytes; there = h.there; short = h.short; follows = f h.bytes h.follows })

-- ---- the program

by_no_code : (IsOf : CodeTree → Plan → Type 0) (made : Result CodeTree ℕ) (p : Plan) → ByCode Never made p → ByCode IsOf made p
by_no_code IsOf (Ok tree) p h = absurd h
by_no_code IsOf (Err unit) p h = h

pub no_code_then : (IsOf : CodeTree → Plan → Type 0) (bytes : Text) (p : Plan) → Compiles Never bytes p → Compiles IsOf bytes p
no_code_then IsOf bytes p (fine made c h) = fine made c (by_no_code IsOf made p h)
no_code_then IsOf bytes p (broken f b h) = broken f b h

pub thin_then : (IsOf : CodeTree → Plan → Type 0) (bytes : Text) (p : Plan) (tree : CodeTree) → IsRunCode bytes tree → IsOf tree p → Thins IsOf bytes p
thin_then IsOf bytes p tree c k = fine (Ok c.whole) c.makes (subst (λ (it : CodeTree). IsOf it p) c.thin k)

pub no_thin_then : (IsOf : CodeTree → Plan → Type 0) (bytes : Text) (p : Plan) → Compiles Never bytes p → Thins IsOf bytes p
no_thin_then IsOf bytes p h = no_code_then (λ tree. IsOf (thinned tree)) bytes p h

module _ (found : Option Text) (name : Text) (IsOf : CodeTree → Plan → Type 0) (p : Plan) where
  pub no_program_then : WithFile found name program_limit (Compiles Never) p → WithFile found name program_limit (Compiles IsOf) p
  no_program_then h = file_map found name program_limit (Compiles Never) (Compiles IsOf) p (λ bytes. no_code_then IsOf bytes p) h

  pub program_then : (tree : CodeTree) → HasFile found program_limit (λ bytes. IsCompiled bytes (Ok tree)) → IsOf tree p → WithFile found name program_limit (Compiles IsOf) p
  program_then tree h k = of_file (record { bytes = h.bytes; there = h.there; short = h.short; follows = fine (Ok tree) h.follows k })

  pub no_thin_program_then : WithFile found name program_limit (Compiles Never) p → WithFile found name program_limit (Thins IsOf) p
  no_thin_program_then h = file_map found name program_limit (Compiles Never) (Thins IsOf) p (λ bytes. no_thin_then IsOf bytes p) h

  pub thin_program_then : (tree : CodeTree) → HasFile found program_limit (λ bytes. IsRunCode bytes tree) → IsOf tree p → WithFile found name program_limit (Thins IsOf) p
  thin_program_then tree h k = of_file (record { bytes = h.bytes; there = h.there; short = h.short; follows = thin_then IsOf h.bytes p tree h.follows k })

-- ---- the start

pub by_no_world : (IsOf : World → Plan → Type 0) (read : Reading World) (p : Plan) → ByWorld Never read p → ByWorld IsOf read p
by_no_world IsOf (Ok start) p h = absurd h
by_no_world IsOf (Err breach) p h = h

pub by_this_world : (IsOf : World → Plan → Type 0) (read : Reading World) (start : World) (p : Plan) → read ≡ Ok start → IsOf start p → ByWorld IsOf read p
by_this_world IsOf read start p is h = subst (λ (r : Reading World). ByWorld IsOf r p) (sym is) h

module _ (files : Files) (run : RunFiles) (reader : Reader) (tree : CodeTree) (p : Plan) where
  pub no_start_then : WithFile (files run.world) run.world world_limit (NoStart tree) p → Starts files run reader tree p
  no_start_then h = file_map (files run.world) run.world world_limit (NoStart tree) (λ bytes. ByWorld (Replays files run.book reader tree) (start_of bytes tree)) p (λ bytes. by_no_world (Replays files run.book reader tree) (start_of bytes tree) p) h

  pub start_then : (start : World) → HasFile (files run.world) world_limit (λ bytes. start_of bytes tree ≡ Ok start) → Replays files run.book reader tree start p → Starts files run reader tree p
  start_then start h k = of_file (record { bytes = h.bytes; there = h.there; short = h.short; follows = by_this_world (Replays files run.book reader tree) (start_of h.bytes tree) start p h.follows k })

-- ---- who reads, and the book

pub by_no_reader : (IsOf : (List Moment → Text) → Plan → Type 0) (read : Result (List Moment → Text) ℕ) (p : Plan) → ByReader Never read p → ByReader IsOf read p
by_no_reader IsOf (Ok shown) p h = absurd h
by_no_reader IsOf (Err index) p h = h

pub by_this_reader : (IsOf : (List Moment → Text) → Plan → Type 0) (read : Result (List Moment → Text) ℕ) (shown : List Moment → Text) (p : Plan) → read ≡ Ok shown → IsOf shown p → ByReader IsOf read p
by_this_reader IsOf read shown p is h = subst (λ (r : Result (List Moment → Text) ℕ). ByReader IsOf r p) (sym is) h

module _ (files : Files) (book : Text) (reader : Reader) (tree : CodeTree) (start : World) (p : Plan) where
  pub no_reader_then : ByReader Never (read_by reader start.names) p → Replays files book reader tree start p
  no_reader_then h = by_no_reader (λ shown. WithFile (files book) book book_limit (IsOfBook tree start shown)) (read_by reader start.names) p h

  pub reader_then : (shown : List Moment → Text) → read_by reader start.names ≡ Ok shown → WithFile (files book) book book_limit (IsOfBook tree start shown) p → Replays files book reader tree start p
  reader_then shown is h = by_this_reader (λ shown. WithFile (files book) book book_limit (IsOfBook tree start shown)) (read_by reader start.names) shown p is h
