-- How a call ends, what it prints and what it writes; and the lines of refusals.
use Rattle.std.specs.Prelude.{◌≡◌, ℕ, ◌+◌, List, [], ◌∷◌, ◌++◌, Option, None, codes, decimal, refl}
use Rattle.lam_front.specs.declared.fault.ProgramFault.{ProgramFault}
use Rattle.lam_front.specs.declared.fault.ProgramFault.TheVariants.{NotUtf8, At, NoMemory as no_memory}
use Rattle.lam_front.specs.Faults.{flaw_name}
use Rattle.world_doc_terms.specs.Breaks.{Break, NotJson, NoMember, BadMember, NoTag, BadPath, PathTwice}
use Rattle.turn_book.specs.declared.BookFault.{BookFault}
use Rattle.turn_book.specs.declared.BookFault.TheVariants.{BadHead, BadLine, SameThread, TooMany, NoMemory as no_memory_of_book}
use Rattle.lam_machine_runs.specs.Stops.{NotReady}
use Rattle.lam_main_words.specs.Words.{Text}
use Rattle.lam_main_plan.specs.declared.Status.{Status}
use Rattle.lam_main_plan.specs.declared.Status.TheVariants.{Done, NoMemory, Words, Program, World, Book, Missing}
use Rattle.lam_main_plan.specs.Codes.{code_of}

-- how a call ends, what it prints, and the file that it writes, if any, by its name and its bytes
pub record Plan : Type 0 where
  pub status : Status
  pub text : Text
  pub writes : Option (Text × Text)

-- a text, and no file
abbrev pub prints : Text → Plan
prints text = record { status = Done; text = text; writes = None }

-- a line from its parts
abbrev pub line : List Text → Text
line [] = 10 ∷ []
line (part ∷ parts) = part ++ line parts

-- a refusal: a line of its status's number, which is one digit, and its parts
abbrev pub refused : Status → List Text → Plan
refused status parts = record { status = status; text = line (codes "lam: " ∷ ((48 + code_of status) ∷ 32 ∷ []) ∷ parts); writes = None }

-- want of memory is no fault of what is read, and prints nothing
abbrev pub without_memory : Plan
without_memory = record { status = NoMemory; text = []; writes = None }

abbrev pub no_word : ℕ → Plan
no_word index = refused Words (codes "word " ∷ decimal index ∷ [])

abbrev pub no_script : ℕ → Plan
no_script number = refused Program (codes "Script line " ∷ decimal number ∷ [])

-- the first fault of a program
abbrev pub no_program : ProgramFault → Plan
no_program NotUtf8 = refused Program (codes "NotUtf8" ∷ [])
no_program (At flaw at) = refused Program (flaw_name flaw ∷ codes " at " ∷ decimal at ∷ [])
no_program no_memory = without_memory

-- a unit that is too long
abbrev pub no_code : ℕ → Plan
no_code unit = refused Program (codes "CodeTooLong " ∷ decimal unit ∷ [])

-- the first break of the document of a world
abbrev pub no_world : Break → Plan
no_world NotJson = refused World (codes "NotJson" ∷ [])
no_world (NoMember name) = refused World (codes "NoMember " ∷ name ∷ [])
no_world (BadMember name) = refused World (codes "BadMember " ∷ name ∷ [])
no_world (NoTag name) = refused World (codes "NoTag " ∷ name ∷ [])
no_world (BadPath index) = refused World (codes "BadPath " ∷ decimal index ∷ [])
no_world (PathTwice index) = refused World (codes "PathTwice " ∷ decimal index ∷ [])

-- why the files at the end of a run are not saved: a tag without a name, by its number, the place of an item whose path is
-- no text, or how many bytes the document would have
abbrev pub unnamed_tag : ℕ → Plan
unnamed_tag tag = refused World (codes "Unnamed #" ∷ decimal tag ∷ [])

abbrev pub bad_text : ℕ → Plan
bad_text item = refused World (codes "BadText " ∷ decimal item ∷ [])

abbrev pub too_big : ℕ → Plan
too_big bytes = refused World (codes "TooBig " ∷ decimal bytes ∷ [])

-- the first broken line of a book, of which the head is line 1
abbrev pub no_book : BookFault → Plan
no_book BadHead = refused Book (codes "BadHead line " ∷ decimal 1 ∷ [])
no_book (BadLine number) = refused Book (codes "BadLine line " ∷ decimal number ∷ [])
no_book (SameThread number) = refused Book (codes "SameThread line " ∷ decimal number ∷ [])
no_book (TooMany number) = refused Book (codes "TooMany line " ∷ decimal number ∷ [])
no_book no_memory_of_book = without_memory

-- the first turn of a book whose thread is not ready
abbrev pub no_turn : NotReady → Plan
no_turn stop = refused Book (codes "NotReady turn " ∷ decimal stop.turn ∷ codes " thread " ∷ decimal stop.thread ∷ [])

abbrev pub absent : Text → Plan
absent name = refused Missing (codes "Absent " ∷ name ∷ [])

abbrev pub too_long : Text → Plan
too_long name = refused Missing (codes "TooLong " ∷ name ∷ [])

-- ---- worked examples
text_line : (no_program NotUtf8).text ≡ codes "lam: 3 NotUtf8\n"
text_line = refl

absent_line : (absent (codes "none")).text ≡ codes "lam: 6 Absent none\n"
absent_line = refl

document_line : (no_world NotJson).text ≡ codes "lam: 4 NotJson\n"
document_line = refl

unnamed_line : (unnamed_tag 3).text ≡ codes "lam: 4 Unnamed #" ++ decimal 3 ++ codes "\n"
unnamed_line = refl

tag_line : (no_world (NoTag (codes "b"))).text ≡ codes "lam: 4 NoTag b\n"
tag_line = refl
