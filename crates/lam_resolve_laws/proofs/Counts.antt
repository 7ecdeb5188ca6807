-- As many names as slots, and as many lists of names as regions.
use Rattle.std.proofs.Common.{◌≡◌, [], ◌∷◌, length, refl, arith, length-append}
use Rattle.lam_syntax.specs.Tree.{class_item, function_item, ProgramTree, stmt_node, StmtForm, if_stmt, while_stmt, sync_stmt, region_stmt, StmtList, no_stmts, stmts, ElseTree, no_else, else_block}
use Rattle.region_check.specs.Judgement.{slots_in, slots_of, slots_or, regions_in, regions_of, regions_or, regions_of_program}
use Rattle.lam_resolve_laws.specs.Names.{slot_words, block_words, else_words, region_words, block_region_words, else_region_words, all_region_words}

mutual
  slots_counted : (form : StmtForm) → length (slot_words form) ≡ slots_in form
  slots_counted (if_stmt e first other) = omega (arith, length-append (block_words first) (else_words other), block_slots first, else_slots other)
  slots_counted (while_stmt e body) = block_slots body
  slots_counted (sync_stmt e body) = omega (arith, block_slots body)
  slots_counted _ = refl

  pub block_slots : (body : StmtList) → length (block_words body) ≡ slots_of body
  block_slots no_stmts = refl
  block_slots (stmts (stmt_node at form) rest) = omega (arith, length-append (slot_words form) (block_words rest), slots_counted form, block_slots rest)

  else_slots : (other : ElseTree) → length (else_words other) ≡ slots_or other
  else_slots no_else = refl
  else_slots (else_block body) = block_slots body

mutual
  regions_counted : (form : StmtForm) → length (region_words form) ≡ regions_in form
  regions_counted (if_stmt e first other) = omega (arith, length-append (block_region_words first) (else_region_words other), block_regions first, else_regions other)
  regions_counted (while_stmt e body) = block_regions body
  regions_counted (sync_stmt e body) = block_regions body
  regions_counted (region_stmt l k xs body x handler) = omega (arith, length-append (block_region_words body) (block_region_words handler), block_regions body, block_regions handler)
  regions_counted _ = refl

  block_regions : (body : StmtList) → length (block_region_words body) ≡ regions_of body
  block_regions no_stmts = refl
  block_regions (stmts (stmt_node at form) rest) = omega (arith, length-append (region_words form) (block_region_words rest), regions_counted form, block_regions rest)

  else_regions : (other : ElseTree) → length (else_region_words other) ≡ regions_or other
  else_regions no_else = refl
  else_regions (else_block body) = block_regions body

pub program_regions : (p : ProgramTree) → length (all_region_words p) ≡ regions_of_program p
program_regions [] = refl
program_regions (class_item c ∷ p) = program_regions p
program_regions (function_item f ∷ p) = omega (arith, length-append (block_region_words f.body) (all_region_words p), block_regions f.body, program_regions p)
