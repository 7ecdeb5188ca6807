-- What a rule gives where the tokens' words fit.
use Rattle.std.proofs.Common.{rules, ◌≡◌, ℕ, true, false, List, [], ◌∷◌, refl}
use Rattle.std.proofs.lemmas.Bool.{both_ways}
use Rattle.lam_grammar_laws.specs.Grammar.{mark, rule}
use Rattle.lam_syntax.specs.Tree.{IdTree, TypeTree, VarTree, CapTree, ExprTree, ExprForm, ExprList, expr_node, binary_expr, field_expr, element_expr, StmtTree, StmtList, ElseTree, ItemTree, ProgramTree}
use Rattle.lam_lexer.specs.declared.token.Token.{Token}
use Rattle.lam_lexer.specs.declared.token.TokenKind.{TokenKind}
use Rattle.lam_lexer.specs.declared.token.TokenKind.TheVariants as Kind
use Rattle.lam_grammar.specs.Table.{Class, Rule, Sym, items, item, fields, variable, params, params_tail, result_part, typ, block, stmts, stmt, else_part, value_part, assign_part, parens, region_head, captures, names, names_tail, handler, expr, comparison, comparison_tail, unary, post, post_tail, prim, chain, chain_tail, call_part, arguments, args, args_tail, new_part, cap_items, cap_item, cap_tail, is_id, is_type_word}
use Rattle.lam_grammar.specs.Meaning.{Value, nothing, word, ids_value, type_value, variable_value, variables_value, expr_value, two_exprs, exprs_value, form_value, operations_value, postfixes_value, cap_value, caps_value, stmt_value, stmts_value, else_value, handler_value, item_value, items_value, Operations, no_more, operation, Postfixes, no_postfix, member, index, combine, extend, spelt, literal_form, type_form_of}
use Rattle.lam_print.specs.Law.{Fits}
use Rattle.lam_print.specs.Fitting.{NameFits, NamesFit, TypeFormFits, TypeFits, VarFits, VarsFit, CapsFit, FormFits, ExprFits, ExprsFit, StmtFits, BlockFits, ElseFits, ItemFits, FitsTree}

-- the words of a token fit
abbrev pub WordFits : TokenKind → Type 0
WordFits (Kind.Id x) = Fits (Kind.Id x)
WordFits (Kind.Number n) = Fits (Kind.Number n)
WordFits (Kind.Text bytes) = Fits (Kind.Text bytes)
WordFits _ = Unit {0}

abbrev pub OperationsFit : Operations → Type 0
OperationsFit no_more = Unit {0}
OperationsFit (operation o e more) = ExprFits e × OperationsFit more

abbrev pub PostfixesFit : Postfixes → Type 0
PostfixesFit no_postfix = Unit {0}
PostfixesFit (member x more) = NameFits x × PostfixesFit more
PostfixesFit (index e more) = ExprFits e × PostfixesFit more

-- ---- values whose words fit, by what they hold

pub data Names : Value → Type 0 where
  some_names : {xs : List IdTree} → NamesFit xs → Names (ids_value xs)

pub data ATyp : Value → Type 0 where
  a_type : {t : TypeTree} → TypeFits t → ATyp (type_value t)

pub data Result : Value → Type 0 where
  no_result : Result nothing
  a_result : {t : TypeTree} → TypeFits t → Result (type_value t)

pub data Variable : Value → Type 0 where
  a_variable : {v : VarTree} → VarFits v → Variable (variable_value v)

pub data Variables : Value → Type 0 where
  some_variables : {vs : List VarTree} → VarsFit vs → Variables (variables_value vs)

pub data Expression : Value → Type 0 where
  an_expr : {b : ℕ} {e : ExprTree} → ExprFits e → Expression (expr_value b e)

pub data MaybeExpression : Value → Type 0 where
  no_expr : MaybeExpression nothing
  some_expr : {b : ℕ} {e : ExprTree} → ExprFits e → MaybeExpression (expr_value b e)

pub data Two : Value → Type 0 where
  a_pair : {l c : ExprTree} → ExprFits l → ExprFits c → Two (two_exprs l c)

pub data Expressions : Value → Type 0 where
  some_exprs : {es : ExprList} → ExprsFit es → Expressions (exprs_value es)

pub data Call : Value → Type 0 where
  no_call : Call nothing
  a_call : {es : ExprList} → ExprsFit es → Call (exprs_value es)

pub data Form : Value → Type 0 where
  a_form : {f : ExprForm} → FormFits f → Form (form_value f)

pub data OperationList : Value → Type 0 where
  some_operations : {os : Operations} → OperationsFit os → OperationList (operations_value os)

pub data PostfixList : Value → Type 0 where
  some_postfixes : {ps : Postfixes} → PostfixesFit ps → PostfixList (postfixes_value ps)

pub data Capability : Value → Type 0 where
  a_cap : {c : CapTree} → NameFits c.name → Capability (cap_value c)

pub data Capabilities : Value → Type 0 where
  some_caps : {cs : List CapTree} → CapsFit cs → Capabilities (caps_value cs)

pub data Statement : Value → Type 0 where
  a_stmt : {s : StmtTree} → StmtFits s → Statement (stmt_value s)

pub data Statements : Value → Type 0 where
  some_stmts : {ss : StmtList} → BlockFits ss → Statements (stmts_value ss)

pub data Otherwise : Value → Type 0 where
  an_else : {e : ElseTree} → ElseFits e → Otherwise (else_value e)

pub data Handler : Value → Type 0 where
  a_handler : {x : IdTree} {ss : StmtList} → NameFits x → BlockFits ss → Handler (handler_value x ss)

pub data Item : Value → Type 0 where
  an_item : {i : ItemTree} → ItemFits i → Item (item_value i)

pub data Items : Value → Type 0 where
  some_items : {is : ProgramTree} → FitsTree is → Items (items_value is)

-- what each rule gives
abbrev pub Good : Rule → Value → Type 0
Good items v = Items v
Good item v = Item v
Good fields v = Variables v
Good variable v = Variable v
Good params v = Variables v
Good params_tail v = Variables v
Good result_part v = Result v
Good typ v = ATyp v
Good block v = Statements v
Good stmts v = Statements v
Good stmt v = Statement v
Good else_part v = Otherwise v
Good value_part v = MaybeExpression v
Good assign_part v = MaybeExpression v
Good parens v = Expression v
Good region_head v = Two v
Good captures v = Names v
Good names v = Names v
Good names_tail v = Names v
Good handler v = Handler v
Good expr v = Expression v
Good comparison v = Expression v
Good comparison_tail v = OperationList v
Good unary v = Expression v
Good post v = Expression v
Good post_tail v = PostfixList v
Good prim v = Expression v
Good (chain l) v = Expression v
Good (chain_tail l) v = OperationList v
Good call_part v = Call v
Good arguments v = Expressions v
Good args v = Expressions v
Good args_tail v = Expressions v
Good new_part v = Form v
Good cap_items v = Capabilities v
Good cap_item v = Capability v
Good cap_tail v = Capabilities v

-- the values of symbols, whose words fit
pub data Holds : List Sym → List Value → Type 0 where
  none : Holds [] []
  of_token : {c : Class} {rest : List Sym} {w : Token} {vs : List Value} → c.fits w.kind ≡ true → WordFits w.kind → Holds rest vs → Holds (mark c ∷ rest) (word w ∷ vs)
  of_rule : {r : Rule} {rest : List Sym} {v : Value} {vs : List Value} → Good r v → Holds rest vs → Holds (rule r ∷ rest) (v ∷ vs)

-- ---- words

pub id_fits : (k : TokenKind) → is_id k ≡ true → WordFits k → Fits (Kind.Id (spelt k))
id_fits (Kind.Id x) q f = f
id_fits _ q f = absurd (both_ways false refl q)

pub literal_fits : (k : TokenKind) → WordFits k → FormFits (literal_form k)
literal_fits (Kind.Number n) f = f
literal_fits (Kind.Text bytes) f = f
literal_fits _ f = tt

pub type_word_fits : (k : TokenKind) → is_type_word k ≡ true → TypeFormFits (type_form_of k)
type_word_fits Kind.Int q = tt
type_word_fits _ q = first_of (search rules, cc)

pub type_name_fits : (k : TokenKind) → is_id k ≡ true → WordFits k → TypeFormFits (type_form_of k)
type_name_fits (Kind.Id x) q f = f
type_name_fits _ q f = absurd (both_ways false refl q)

-- ---- chains

pub combine_fits : (b : ℕ) (a : ExprTree) (os : Operations) → ExprFits a → OperationsFit os → ExprFits (combine b a os)
combine_fits b a no_more f h = f
combine_fits b a (operation o e more) f h = combine_fits b (expr_node b (binary_expr o a e)) more (f, h.0) h.1

pub extend_fits : (b : ℕ) (a : ExprTree) (ps : Postfixes) → ExprFits a → PostfixesFit ps → ExprFits (extend b a ps)
extend_fits b a no_postfix f h = f
extend_fits b a (member x more) f h = extend_fits b (expr_node b (field_expr a x)) more (f, h.0) h.1
extend_fits b a (index e more) f h = extend_fits b (expr_node b (element_expr a e)) more (f, h.0) h.1
