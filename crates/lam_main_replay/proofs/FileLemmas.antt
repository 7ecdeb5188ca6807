-- What a command answers after it read its file, or did not.
use Rattle.std.proofs.Common.{◌≡◌, ◌⊎◌, inl, inr, ℕ, Option, None, Result, Ok, Err, IfOk, String, string_bytes, refl, sym, subst}
use Rattle.std.specs.declared.alloc.Global.{Global}
use Rattle.std.specs.Prelude.{Vec}
use Rattle.lam_io.specs.Outside.{Files, AllStay}
use Rattle.lam_front.specs.declared.fault.ProgramFault.{ProgramFault}
use Rattle.lam_front.specs.declared.fault.ProgramFault.TheVariants.{NotUtf8, At, NoMemory as no_memory_of_it}
use Rattle.lam_front.specs.Programs.{IsMisspelt}
use Rattle.lam_bytecode.specs.Codes.{CodeTree}
use Rattle.lam_main_plan.specs.InputFault.{InputFault}
use Rattle.lam_main_plan.specs.InputFault.TheVariants as input
use Rattle.lam_main_plan.specs.Inputs.{NoCode}
use Rattle.lam_main_words.specs.Words.{Text}
use Rattle.lam_main_plan.specs.Refusals.{Plan, prints}
use Rattle.lam_main_plan.specs.Reading.{HasFile, WithFile, of_file, Never, program_limit, IsCompiled, Compiles, fine, broken}
use Rattle.lam_main_plan.specs.Plan.{Formats, misspelt}
use Rattle.lam_main_plan.proofs.ReadLemmas.{program_then, no_program_then}
use Rattle.lam_main_replay.specs.declared.halt.Halt.{Halt}
use Rattle.lam_main_replay.specs.declared.halt.Halt.TheVariants.{Refused, NoMemory, ShelfFailed}
use Rattle.lam_main_replay.specs.Halts.{refuses, halt_of, halt_of_input, Finds, Says, Gives, IsRead}

-- ---- answers

-- what is planned stays so where more is planned
pub says_map : (P Q : Plan → Type 0) → ((p : Plan) → P p → Q p) → (answer : Result (String Global) Halt) → Says answer P → Says answer Q
says_map P Q f (Ok text) h = f (prints (string_bytes text)) h
says_map P Q f (Err (Refused refusal)) h = f (refuses refusal) h
says_map P Q f (Err NoMemory) h = tt
says_map P Q f (Err ShelfFailed) h = tt

-- what is not found is refused as planned
pub not_found : {X : Type 0} (IsIt : X → Type 0) (P Q : Plan → Type 0) → ((p : Plan) → P p → Q p) → (halt : Halt) → Finds {X = X} (Err halt) IsIt P → Says (Err halt) Q
not_found IsIt P Q f (Refused refusal) h = f (refuses refusal) h
not_found IsIt P Q f NoMemory h = tt
not_found IsIt P Q f ShelfFailed h = tt

-- what is found is so, whatever else is planned
pub found_is : {X : Type 0} (IsIt Is : X → Type 0) (P : Plan → Type 0) → ((x : X) → IsIt x → Is x) → (answer : Result X Halt) → Finds answer IsIt P → IfOk answer Is
found_is IsIt Is P f (Ok x) h = f x h
found_is IsIt Is P f (Err halt) h = tt

-- no file is written
pub gives_of : (P : Plan → Type 0) (old new : Files) (answer : Result (String Global) Halt) → AllStay old new → Says answer P → Gives answer P old new
gives_of P old new (Ok text) stay h = (None, h, stay)
gives_of P old new (Err (Refused refusal)) stay h = (h, stay)
gives_of P old new (Err NoMemory) stay h = tt
gives_of P old new (Err ShelfFailed) stay h = tt

-- ---- files

module _ (found : Option Text) (name : Text) (limit : ℕ) where
  pub from_file : (IsOf : Text → Plan → Type 0) (old new : Files) (bytes : Vec ℕ Global) (answer : Result (String Global) Halt) → IsRead (Ok bytes) found name limit → AllStay old new → Says answer (IsOf bytes.items) → Gives answer (WithFile found name limit IsOf) old new
  from_file IsOf old new bytes answer read stay says = gives_of (WithFile found name limit IsOf) old new answer stay (says_map (IsOf bytes.items) (WithFile found name limit IsOf) (λ p h. of_file (record { bytes = bytes.items; there = read.0; short = read.1; follows = h })) answer says)

  -- what is found in the bytes of a file
  pub found_in_file : {X : Type 0} (IsIt : X → Text → Type 0) (IsNone : Text → Plan → Type 0) (bytes : Vec ℕ Global) (answer : Result X Halt) → IsRead (Ok bytes) found name limit → Finds answer (λ x. IsIt x bytes.items) (IsNone bytes.items) → Finds answer (λ x. HasFile found limit (IsIt x)) (WithFile found name limit IsNone)
  found_in_file IsIt IsNone bytes (Ok x) read finds = record { bytes = bytes.items; there = read.0; short = read.1; follows = finds }
  found_in_file IsIt IsNone bytes (Err (Refused refusal)) read finds = of_file (record { bytes = bytes.items; there = read.0; short = read.1; follows = finds })
  found_in_file IsIt IsNone bytes (Err NoMemory) read finds = tt
  found_in_file IsIt IsNone bytes (Err ShelfFailed) read finds = tt

-- ---- programs

says_of : (IsPlan : Plan → Type 0) (f : ProgramFault) (halt : Halt) → halt ≡ halt_of f → Says (Err (halt_of f)) IsPlan → Says (Err halt) IsPlan
says_of IsPlan f halt is says = subst (λ (h : Halt). Says (Err h) IsPlan) (sym is) says

without_memory : (IsPlan : Plan → Type 0) (f : ProgramFault) → f ≡ no_memory_of_it → Says (Err (halt_of f)) IsPlan
without_memory IsPlan f e = subst (λ (g : ProgramFault). Says (Err (halt_of g)) IsPlan) (sym e) tt

misspelt_says : (bytes : Text) (f : ProgramFault) → IsMisspelt bytes f → Says (Err (halt_of f)) (Formats bytes)
misspelt_says bytes NotUtf8 m = misspelt NotUtf8 m refl
misspelt_says bytes (At flaw at) m = misspelt (At flaw at) m refl
misspelt_says bytes no_memory_of_it m = tt

pub not_formatted : (bytes : Text) (f : ProgramFault) (halt : Halt) → (f ≡ no_memory_of_it) ⊎ IsMisspelt bytes f → halt ≡ halt_of f → Says (Err halt) (Formats bytes)
not_formatted bytes f halt h is = says_of (Formats bytes) f halt is (elim h [ inl e ↦ without_memory (Formats bytes) f e | inr m ↦ misspelt_says bytes f m ])

-- ---- inputs

module _ {X : Type 0} (IsIt : X → Type 0) (bytes : Text) where
  no_code : (f : InputFault) → NoCode bytes f → Finds {X = X} (Err (halt_of_input f)) IsIt (Compiles Never bytes)
  no_code input.NotUtf8 h = broken NotUtf8 h refl
  no_code (input.Flawed flaw at) h = broken (At flaw at) h refl
  no_code (input.CodeTooLong unit) h = fine (Err unit) h refl
  no_code (input.World breach) h = absurd h
  no_code input.NoMemory h = tt

  -- bytes that give no code are refused as planned
  pub no_code_found : (f : InputFault) (halt : Halt) → NoCode bytes f → halt ≡ halt_of_input f → Finds {X = X} (Err halt) IsIt (Compiles Never bytes)
  no_code_found f halt h is = subst (λ (x : Halt). Finds {X = X} (Err x) IsIt (Compiles Never bytes)) (sym is) (no_code f h)

-- no fault of an input is one of the shelf
pub no_shelf_input : (f : InputFault) (halt : Halt) → halt ≡ halt_of_input f → halt ≡ ShelfFailed → ⊥
no_shelf_input input.NotUtf8 halt is e = cc
no_shelf_input (input.Flawed flaw at) halt is e = cc
no_shelf_input (input.CodeTooLong unit) halt is e = cc
no_shelf_input (input.World breach) halt is e = cc
no_shelf_input input.NoMemory halt is e = cc

-- ---- the code of a file

module _ (found : Option Text) (name : Text) (IsOf : CodeTree → Plan → Type 0) (old new : Files) where
  -- a text of the code
  pub by_code_found : (tree : CodeTree) (answer : Result (String Global) Halt) → HasFile found program_limit (λ bytes. IsCompiled bytes (Ok tree)) → AllStay old new → Says answer (IsOf tree) → Gives answer (WithFile found name program_limit (Compiles IsOf)) old new
  by_code_found tree answer h stay says = gives_of (WithFile found name program_limit (Compiles IsOf)) old new answer stay (says_map (IsOf tree) (WithFile found name program_limit (Compiles IsOf)) (λ p k. program_then found name IsOf p tree h k) answer says)

  pub by_no_code_found : (halt : Halt) → Finds {X = CodeTree} (Err halt) (λ tree. HasFile found program_limit (λ bytes. IsCompiled bytes (Ok tree))) (WithFile found name program_limit (Compiles Never)) → AllStay old new → Gives (Err halt) (WithFile found name program_limit (Compiles IsOf)) old new
  by_no_code_found halt h stay = gives_of (WithFile found name program_limit (Compiles IsOf)) old new (Err halt) stay (not_found (λ tree. HasFile found program_limit (λ bytes. IsCompiled bytes (Ok tree))) (WithFile found name program_limit (Compiles Never)) (WithFile found name program_limit (Compiles IsOf)) (λ p k. no_program_then found name IsOf p k) halt h)
