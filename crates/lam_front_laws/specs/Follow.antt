-- Which tokens may follow each rule of the table.
use Rattle.std.specs.Prelude.{Bool, true, false}
use Rattle.lam_grammar_laws.specs.Examples.{either}
use Rattle.lam_grammar_laws.specs.Follow.{Follows}
use Rattle.lam_lexer.specs.declared.token.TokenKind.{TokenKind}
use Rattle.lam_lexer.specs.declared.token.TokenKind.TheVariants.{BraceOpen, BraceClose, ParenClose, BracketOpen, BracketClose, Comma, Semicolon, Dot, Assign, Else, Catch, End}
use Rattle.lam_grammar.specs.declared.Level.TheVariants.{Or as or_level, And as and_level, Sum as sum_level, Term as term_level}
use Rattle.lam_grammar.specs.Table.{Rule, items, item, fields, variable, params, params_tail, result_part, typ, block, stmts, stmt, else_part, value_part, assign_part, parens, region_head, captures, names, names_tail, handler, expr, comparison, comparison_tail, unary, post, post_tail, prim, chain, chain_tail, call_part, arguments, args, args_tail, new_part, cap_items, cap_item, cap_tail, is_id, operates, compares, begins_item, begins_stmt}
use Rattle.lam_grammar.specs.Program.{lam}
use Rattle.lam_grammar.specs.Examples.{null}

-- ---- behind an expression, and behind each of its parts

abbrev pub after_expr : TokenKind → Bool
after_expr k = elim k [ Semicolon ↦ true | Assign ↦ true | Comma ↦ true | ParenClose ↦ true | BracketClose ↦ true | BraceClose ↦ true | _ ↦ false ]

abbrev pub after_and : TokenKind → Bool
after_and k = either (operates or_level k) (after_expr k)

abbrev pub after_comparison : TokenKind → Bool
after_comparison k = either (operates and_level k) (after_and k)

abbrev pub after_sum : TokenKind → Bool
after_sum k = either (compares k) (after_comparison k)

abbrev pub after_term : TokenKind → Bool
after_term k = either (operates sum_level k) (after_sum k)

abbrev pub after_unary : TokenKind → Bool
after_unary k = either (operates term_level k) (after_term k)

abbrev pub after_prim : TokenKind → Bool
after_prim k = elim k [ Dot ↦ true | BracketOpen ↦ true | x ↦ after_unary x ]

-- also before a block, and before the function of `spawn`
abbrev pub after_parens : TokenKind → Bool
after_parens k = elim k [ BraceOpen ↦ true | x ↦ either (is_id x) (after_prim x) ]

-- ---- behind the other rules

abbrev pub after_item : TokenKind → Bool
after_item k = elim k [ End ↦ true | x ↦ begins_item x ]

abbrev pub after_stmt : TokenKind → Bool
after_stmt k = elim k [ BraceClose ↦ true | x ↦ begins_stmt x ]

abbrev pub after_block : TokenKind → Bool
after_block k = elim k [ Else ↦ true | Catch ↦ true | x ↦ either (after_item x) (after_stmt x) ]

abbrev pub after_variable : TokenKind → Bool
after_variable k = elim k [ Semicolon ↦ true | Comma ↦ true | ParenClose ↦ true | Assign ↦ true | _ ↦ false ]

abbrev pub after_type : TokenKind → Bool
after_type k = elim k [ BraceOpen ↦ true | BracketClose ↦ true | x ↦ after_variable x ]

abbrev pub after_args : TokenKind → Bool
after_args k = elim k [ ParenClose ↦ true | Semicolon ↦ true | BraceClose ↦ true | _ ↦ false ]

abbrev pub follows : Rule → TokenKind → Bool
follows items k = elim k [ End ↦ true | _ ↦ false ]
follows item k = after_item k
follows fields k = elim k [ BraceClose ↦ true | _ ↦ false ]
follows variable k = after_variable k
follows params k = elim k [ ParenClose ↦ true | _ ↦ false ]
follows params_tail k = elim k [ ParenClose ↦ true | _ ↦ false ]
follows result_part k = elim k [ BraceOpen ↦ true | _ ↦ false ]
follows typ k = after_type k
follows block k = after_block k
follows stmts k = elim k [ BraceClose ↦ true | _ ↦ false ]
follows stmt k = after_stmt k
follows else_part k = after_stmt k
follows value_part k = elim k [ Semicolon ↦ true | _ ↦ false ]
follows assign_part k = elim k [ Semicolon ↦ true | _ ↦ false ]
follows parens k = after_parens k
follows region_head k = elim k [ BracketOpen ↦ true | _ ↦ false ]
follows captures k = elim k [ BraceOpen ↦ true | _ ↦ false ]
follows names k = elim k [ BracketClose ↦ true | _ ↦ false ]
follows names_tail k = elim k [ BracketClose ↦ true | _ ↦ false ]
follows handler k = after_stmt k
follows expr k = after_expr k
follows (chain or_level) k = after_expr k
follows (chain and_level) k = after_and k
follows (chain sum_level) k = after_sum k
follows (chain term_level) k = after_term k
follows (chain_tail or_level) k = after_expr k
follows (chain_tail and_level) k = after_and k
follows (chain_tail sum_level) k = after_sum k
follows (chain_tail term_level) k = after_term k
follows comparison k = after_comparison k
follows comparison_tail k = after_comparison k
follows unary k = after_unary k
follows post k = after_unary k
follows post_tail k = after_unary k
follows prim k = after_prim k
follows call_part k = after_prim k
follows arguments k = after_prim k
follows args k = after_args k
follows args_tail k = after_args k
follows new_part k = after_prim k
follows cap_items k = elim k [ BraceClose ↦ true | _ ↦ false ]
follows cap_item k = elim k [ Comma ↦ true | BraceClose ↦ true | _ ↦ false ]
follows cap_tail k = elim k [ BraceClose ↦ true | _ ↦ false ]

abbrev pub lam_follows : Follows lam
lam_follows = record { null = null; follows = λ r w. follows r w.kind }
