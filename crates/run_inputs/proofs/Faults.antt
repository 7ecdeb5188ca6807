-- What the parts that read are refused for is a fault of the bytes.
use Rattle.std.proofs.Common.{◌≡◌, ◌⊎◌, inl, inr, ℕ, Err, sym, ap, subst, ◌∙◌}
use Rattle.flow_labels.specs.TwoLists.{Text}
use Rattle.lam_syntax.specs.Tree.{ProgramTree}
use Rattle.lam_front.specs.declared.fault.ProgramFault.{ProgramFault}
use Rattle.lam_front.specs.declared.fault.ProgramFault.TheVariants.{NotUtf8, At, NoMemory as no_memory_of_program}
use Rattle.lam_front.specs.Programs.{IsFine, IsBroken}
use Rattle.lam_bytecode.specs.Codes.{CodeTree}
use Rattle.barrier_compiler.specs.Compiled.{IsCompiledTo}
use Rattle.barrier_compiler.specs.declared.generation.CompileFault.{CompileFault}
use Rattle.barrier_compiler.specs.declared.generation.CompileFault.TheVariants.{CodeTooLong as too_long_code, NoMemory as no_memory_for_code}
use Rattle.world_doc_terms.specs.Start.{start_of}
use Rattle.world_doc_stores.specs.Meaning as reading
use Rattle.world_doc_stores.specs.declared.fault.WorldFault.{WorldFault}
use Rattle.world_doc_stores.specs.declared.fault.WorldFault.TheVariants.{Broken, NoMemory as no_memory_of_world}
use Rattle.run_inputs.specs.declared.fault.InputFault.{InputFault}
use Rattle.run_inputs.specs.Inputs.{NoCode, NoStart, fault_of_program, fault_of_code, fault_of_world}

-- ---- the program

module _ (bytes : Text) where
  of_program : (f : ProgramFault) → IsBroken bytes f → NoCode bytes (fault_of_program f)
  of_program NotUtf8 h = h
  of_program (At flaw at) h = h
  of_program no_memory_of_program h = tt

  pub not_checked : (f : ProgramFault) (e : InputFault) → (f ≡ no_memory_of_program) ⊎ IsBroken bytes f → e ≡ fault_of_program f → NoCode bytes e
  not_checked f e h is =
      subst (NoCode bytes) (sym is)
      (elim h [
        | inl m ↦ subst (λ (g : ProgramFault). NoCode bytes (fault_of_program g)) (sym m) tt
        | inr b ↦ of_program f b
      ])

  pub not_compiled : (p : ProgramTree) (f : CompileFault) (e : InputFault) → IsFine bytes p → (f ≡ no_memory_for_code) ⊎ ((unit : ℕ) × (f ≡ too_long_code unit) × IsCompiledTo p (Err unit)) → e ≡ fault_of_code f → NoCode bytes e
  not_compiled p f e fine h is =
      elim h [
        | inl m ↦ subst (NoCode bytes) (sym (is ∙ ap fault_of_code m)) tt
        | inr m ↦ subst (NoCode bytes) (sym (is ∙ ap fault_of_code m.1)) (record { program = p; fine = fine; makes = m.2 })
      ]

-- ---- the document

module _ (code : CodeTree) (bytes : Text) where
  of_world : (f : WorldFault) → reading.Fails f (start_of bytes code) → NoStart code bytes (fault_of_world f)
  of_world (Broken breach) h = h.breaks
  of_world no_memory_of_world h = tt

  pub not_read : (lent : CodeTree) (f : WorldFault) (e : InputFault) → lent ≡ code → reading.Fails f (start_of bytes lent) → e ≡ fault_of_world f → NoStart code bytes e
  not_read lent f e same h is =
      subst (NoStart code bytes) (sym is)
      (of_world f (subst (λ (c : CodeTree). reading.Fails f (start_of bytes c)) same h))
