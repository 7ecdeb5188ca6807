-- The layout joins no two tokens.
use Rattle.std.proofs.Common.{◌≡◌, ℕ, ◌+◌, nat_lt, Bool, true, false, not, cond, List, [], ◌∷◌, Option, Some, None, refl, sym, ap, ◌∙◌, subst}
use Rattle.std.proofs.lemmas.Bool.{and_from, and_parts}
use Rattle.lam_lexer.specs.declared.token.TokenKind.{TokenKind}
use Rattle.lam_lexer.specs.declared.token.TokenKind.TheVariants as Kind
use Rattle.lam_operators.specs.declared.BinaryOp.{BinaryOp}
use Rattle.lam_operators.specs.declared.BinaryOp.TheVariants as Op
use Rattle.lam_operators.specs.declared.UnaryOp.{UnaryOp}
use Rattle.lam_operators.specs.declared.UnaryOp.TheVariants as Sign
use Rattle.lam_syntax.specs.Tree.{IdTree, TypeTree, type_node, TypeForm, class_type, array_type, VarTree, CapTree, ExprTree, expr_node, ExprForm, binary_expr, unary_expr, field_expr, element_expr, number_expr, text_expr, bool_expr, null_expr, name_expr, call_expr, new_class_expr, new_array_expr, label_expr, caps_expr, spawn_expr, ExprList, no_exprs, exprs, StmtTree, stmt_node, StmtForm, let_stmt, if_stmt, while_stmt, return_stmt, throw_stmt, sync_stmt, region_stmt, do_stmt, assign_stmt, StmtList, no_stmts, stmts, ElseTree, no_else, else_block, ClassTree, FunctionTree, ItemTree, class_item, function_item, ProgramTree}
use Rattle.lam_print.specs.Pieces.{Piece, token, blank, line}
use Rattle.lam_print.specs.Canon.{name, operator, sign, truth, weight, left_place, right_place, prefixed, before_postfix, whole as anywhere, opened, closed, comma, spaced, gap, lay_type_form, lay_type, lay_var, lay_names, lay_vars, lay_cap, lay_caps, lay_form, lay, lay_args, lay_tags, lay_value, lay_stmt_form, lay_stmt, lay_block, lay_stmts, lay_else, lay_fields, lay_class_body, lay_result, lay_class, lay_function, lay_item, lay_items, pieces}
use Rattle.lam_print.specs.Law.{TextLaw}
use Rattle.lam_print.proofs.Sides.{Side, wordy, half, whole, left, right, joins, parted}
use Rattle.lam_print.proofs.Lexing.{parted_are_lexed}

abbrev Good : Side → List Piece → Type 0
Good s ps = parted s ps ≡ true

-- what may follow a word may follow anything that joins nothing
loosen : (ps : List Piece) → Good wordy ps → Good whole ps
loosen [] h = refl
loosen (token k ∷ ps) h = and_from (not (joins whole (left k))) (parted (right k) ps) refl (and_parts (not (joins wordy (left k))) (parted (right k) ps) h).1
loosen (blank ∷ ps) h = h
loosen (line n ∷ ps) h = h

before : (s : Side) (k : TokenKind) (ps : List Piece) → joins s (left k) ≡ false → Good (right k) ps → Good s (token k ∷ ps)
before s k ps q h = and_from (not (joins s (left k))) (parted (right k) ps) (ap not q) h

joins_whole : (s : Side) → joins s whole ≡ false
joins_whole wordy = refl
joins_whole half = refl
joins_whole whole = refl

-- a mark that nothing lengthens and that lengthens nothing, behind anything
mk : (s : Side) (k : TokenKind) (ps : List Piece) → left k ≡ whole → right k ≡ whole → Good whole ps → Good s (token k ∷ ps)
mk s k ps l r h = before s k ps (ap (joins s) l ∙ joins_whole s) (subst (λ (t : Side). Good t ps) (sym r) h)

-- a word, behind what joins no word
wd : (s : Side) (k : TokenKind) (ps : List Piece) → left k ≡ wordy → right k ≡ wordy → joins s wordy ≡ false → Good wordy ps → Good s (token k ∷ ps)
wd s k ps l r q h = before s k ps (ap (joins s) l ∙ q) (subst (λ (t : Side). Good t ps) (sym r) h)

nm : (x : IdTree) (s : Side) (ps : List Piece) → joins s wordy ≡ false → Good wordy ps → Good s (name x ps)
nm x s ps q h = before s (Kind.Id x.word) ps q h

-- ---- types

tf : (t : TypeForm) (s : Side) (ps : List Piece) → joins s wordy ≡ false → Good wordy ps → Good s (lay_type_form t ps)
tf (class_type x) s ps q h = before s (Kind.Id x) ps q h
tf (array_type (type_node at form)) s ps q h = mk s Kind.BracketOpen (lay_type_form form (token Kind.BracketClose ∷ ps)) refl refl (tf form whole (token Kind.BracketClose ∷ ps) refl (mk wordy Kind.BracketClose ps refl refl (loosen ps h)))
tf _ s ps q h = and_from (not (joins s wordy)) (parted wordy ps) (ap not q) h

ty : (t : TypeTree) (s : Side) (ps : List Piece) → joins s wordy ≡ false → Good wordy ps → Good s (lay_type t ps)
ty (type_node at form) s ps q h = tf form s ps q h

vr : (v : VarTree) (ps : List Piece) → Good wordy ps → Good whole (lay_var v ps)
vr v ps h = nm v.name whole (token Kind.Colon ∷ blank ∷ lay_type v.ty ps) refl (mk wordy Kind.Colon (blank ∷ lay_type v.ty ps) refl refl (ty v.ty whole ps refl h))

-- ---- lists

-- the first item, or one behind a comma
listed : (later : Bool) (ps : List Piece) → Good whole ps → Good whole (comma later ps)
listed true ps h = mk whole Kind.Comma (blank ∷ ps) refl refl h
listed false ps h = h

names : (xs : List IdTree) (later : Bool) (ps : List Piece) → Good wordy ps → Good whole (lay_names later xs ps) × Good wordy (lay_names true xs ps)
names [] later ps h = (loosen ps h, h)
names (x ∷ xs) later ps h =
    let item : Good whole (name x (lay_names true xs ps)) = nm x whole (lay_names true xs ps) refl (names xs true ps h).1 in
    (listed later (name x (lay_names true xs ps)) item, mk wordy Kind.Comma (blank ∷ name x (lay_names true xs ps)) refl refl item)

vars : (vs : List VarTree) (later : Bool) (ps : List Piece) → Good wordy ps → Good whole (lay_vars later vs ps) × Good wordy (lay_vars true vs ps)
vars [] later ps h = (loosen ps h, h)
vars (v ∷ vs) later ps h =
    let item : Good whole (lay_var v (lay_vars true vs ps)) = vr v (lay_vars true vs ps) (vars vs true ps h).1 in
    (listed later (lay_var v (lay_vars true vs ps)) item, mk wordy Kind.Comma (blank ∷ lay_var v (lay_vars true vs ps)) refl refl item)

cap_mark : (b : Bool) (ps : List Piece) → Good whole ps → Good wordy (token (cond b Kind.Plus Kind.Minus) ∷ ps)
cap_mark true ps h = mk wordy Kind.Plus ps refl refl h
cap_mark false ps h = mk wordy Kind.Minus ps refl refl h

cp : (c : CapTree) (ps : List Piece) → Good whole ps → Good whole (lay_cap c ps)
cp c ps h = nm c.name whole (token (cond c.plus Kind.Plus Kind.Minus) ∷ ps) refl (cap_mark c.plus ps h)

caps : (cs : List CapTree) (later : Bool) (ps : List Piece) → Good wordy ps → Good whole (lay_caps later cs ps) × Good wordy (lay_caps true cs ps)
caps [] later ps h = (loosen ps h, h)
caps (c ∷ cs) later ps h =
    let item : Good whole (lay_cap c (lay_caps true cs ps)) = cp c (lay_caps true cs ps) (caps cs true ps h).0 in
    (listed later (lay_cap c (lay_caps true cs ps)) item, mk wordy Kind.Comma (blank ∷ lay_cap c (lay_caps true cs ps)) refl refl item)

-- ---- expressions

op : (o : BinaryOp) (ps : List Piece) → Good whole ps → Good whole (token (operator o) ∷ blank ∷ ps)
op Op.Or ps h = h
op _ ps h = h

-- a sign before an expression, which begins neither with = nor with /
sg : (o : UnaryOp) (s : Side) (ps : List Piece) → Good whole ps → Good half ps → Good s (token (sign o) ∷ ps)
sg Sign.Not s ps h g = before s Kind.Not ps (joins_whole s) g
sg Sign.Neg s ps h g = mk s Kind.Minus ps refl refl h

cl : (b : Bool) (ps : List Piece) → Good wordy ps → Good wordy (closed b ps)
cl true ps h = mk wordy Kind.ParenClose ps refl refl (loosen ps h)
cl false ps h = h

on : (b : Bool) (s : Side) (ps : List Piece) → Good s ps → Good whole ps → Good s (opened b ps)
on true s ps h g = mk s Kind.ParenOpen ps refl refl g
on false s ps h g = h

tr : (b : Bool) (s : Side) (ps : List Piece) → joins s wordy ≡ false → Good wordy ps → Good s (token (truth b) ∷ ps)
tr true s ps q h = wd s Kind.True ps refl refl q h
tr false s ps q h = wd s Kind.False ps refl refl q h

sp : (later : Bool) (s : Side) (ps : List Piece) → Good whole ps → Good s (spaced later ps)
sp true s ps h = mk s Kind.Comma (blank ∷ ps) refl refl h
sp false s ps h = h

round : (f : List Piece → List Piece) → ((ps : List Piece) → Good wordy ps → Good whole (f ps)) → (ps : List Piece) → Good wordy ps → Good wordy (token Kind.ParenOpen ∷ f (token Kind.ParenClose ∷ ps))
round f g ps h = mk wordy Kind.ParenOpen (f (token Kind.ParenClose ∷ ps)) refl refl (g (token Kind.ParenClose ∷ ps) (mk wordy Kind.ParenClose ps refl refl (loosen ps h)))

mutual
  ef : (e : ExprForm) (k : ℕ) (s : Side) (ps : List Piece) → joins s wordy ≡ false → Good wordy ps → Good s (lay_form e k ps)
  ef (binary_expr o l r) k s ps q h =
      let b = nat_lt k (weight o) in
      let rest = lay r (right_place o) (closed b ps) in
      let tail = blank ∷ token (operator o) ∷ blank ∷ rest in
      let g : Good wordy tail = op o rest (ex r (right_place o) whole (closed b ps) refl (cl b ps h)) in
      on b s (lay l (left_place o) tail) (ex l (left_place o) s tail q g) (ex l (left_place o) whole tail refl g)
  ef (unary_expr o e) k s ps q h =
      let b = nat_lt k prefixed in
      let rest = lay e prefixed (closed b ps) in
      let g = cl b ps h in
      let x = ex e prefixed whole (closed b ps) refl g in
      let y = ex e prefixed half (closed b ps) refl g in
      on b s (token (sign o) ∷ rest) (sg o s rest x y) (sg o whole rest x y)
  ef (field_expr e x) k s ps q h = ex e before_postfix s (token Kind.Dot ∷ name x ps) q (mk wordy Kind.Dot (name x ps) refl refl (nm x whole ps refl h))
  ef (element_expr e i) k s ps q h =
      ex e before_postfix s (token Kind.BracketOpen ∷ lay i anywhere (token Kind.BracketClose ∷ ps)) q
      (mk wordy Kind.BracketOpen (lay i anywhere (token Kind.BracketClose ∷ ps)) refl refl (ex i anywhere whole (token Kind.BracketClose ∷ ps) refl (mk wordy Kind.BracketClose ps refl refl (loosen ps h))))
  ef (number_expr n) k s ps q h = before s (Kind.Number n) ps q h
  ef (text_expr bs) k s ps q h = mk s (Kind.Text bs) ps refl refl (loosen ps h)
  ef (bool_expr b) k s ps q h = tr b s ps q h
  ef null_expr k s ps q h = wd s Kind.Null ps refl refl q h
  ef (name_expr x) k s ps q h = before s (Kind.Id x) ps q h
  ef (call_expr f es) k s ps q h = nm f s (token Kind.ParenOpen ∷ lay_args false es (token Kind.ParenClose ∷ ps)) q (round (lay_args false es) (λ ps h. (args es false ps h).0) ps h)
  ef (new_class_expr c) k s ps q h = wd s Kind.New (blank ∷ name c (token Kind.ParenOpen ∷ token Kind.ParenClose ∷ ps)) refl refl q (nm c whole (token Kind.ParenOpen ∷ token Kind.ParenClose ∷ ps) refl (round (λ (ps : List Piece). ps) loosen ps h))
  ef (new_array_expr t e) k s ps q h =
      let inner = token Kind.BracketClose ∷ token Kind.ParenOpen ∷ lay e anywhere (token Kind.ParenClose ∷ ps) in
      wd s Kind.New (blank ∷ token Kind.BracketOpen ∷ lay_type t inner) refl refl q
      (mk whole Kind.BracketOpen (lay_type t inner) refl refl (ty t whole inner refl
      (mk wordy Kind.BracketClose (token Kind.ParenOpen ∷ lay e anywhere (token Kind.ParenClose ∷ ps)) refl refl
      (mk whole Kind.ParenOpen (lay e anywhere (token Kind.ParenClose ∷ ps)) refl refl (ex e anywhere whole (token Kind.ParenClose ∷ ps) refl (mk wordy Kind.ParenClose ps refl refl (loosen ps h)))))))
  ef (label_expr a b) k s ps q h =
      let last = token Kind.BraceClose ∷ ps in
      let second = token Kind.Semicolon ∷ lay_tags false b last in
      wd s Kind.Label (token Kind.BraceOpen ∷ lay_args false a second) refl refl q
      (mk wordy Kind.BraceOpen (lay_args false a second) refl refl
      (args a false second (mk wordy Kind.Semicolon (lay_tags false b last) refl refl (tags b false last (mk wordy Kind.BraceClose ps refl refl (loosen ps h))).0)).0)
  ef (caps_expr cs) k s ps q h =
      wd s Kind.Caps (token Kind.BraceOpen ∷ lay_caps false cs (token Kind.BraceClose ∷ ps)) refl refl q
      (mk wordy Kind.BraceOpen (lay_caps false cs (token Kind.BraceClose ∷ ps)) refl refl (caps cs false (token Kind.BraceClose ∷ ps) (mk wordy Kind.BraceClose ps refl refl (loosen ps h))).0)
  ef (spawn_expr c f es) k s ps q h =
      let call = token Kind.ParenOpen ∷ lay_args false es (token Kind.ParenClose ∷ ps) in
      let rest = blank ∷ name f call in
      wd s Kind.Spawn (token Kind.ParenOpen ∷ lay c anywhere (token Kind.ParenClose ∷ rest)) refl refl q
      (mk wordy Kind.ParenOpen (lay c anywhere (token Kind.ParenClose ∷ rest)) refl refl (ex c anywhere whole (token Kind.ParenClose ∷ rest) refl
      (mk wordy Kind.ParenClose rest refl refl (nm f whole call refl (round (lay_args false es) (λ ps h. (args es false ps h).0) ps h)))))

  ex : (e : ExprTree) (k : ℕ) (s : Side) (ps : List Piece) → joins s wordy ≡ false → Good wordy ps → Good s (lay e k ps)
  ex (expr_node at form) k s ps q h = ef form k s ps q h

  args : (es : ExprList) (later : Bool) (ps : List Piece) → Good wordy ps → Good whole (lay_args later es ps) × Good wordy (lay_args true es ps)
  args no_exprs later ps h = (loosen ps h, h)
  args (exprs e es) later ps h =
      let item : Good whole (lay e anywhere (lay_args true es ps)) = ex e anywhere whole (lay_args true es ps) refl (args es true ps h).1 in
      (listed later (lay e anywhere (lay_args true es ps)) item, mk wordy Kind.Comma (blank ∷ lay e anywhere (lay_args true es ps)) refl refl item)

  tags : (es : ExprList) (later : Bool) (ps : List Piece) → Good wordy ps → Good whole (lay_tags later es ps) × Good wordy (lay_tags true es ps)
  tags no_exprs later ps h = (loosen ps h, h)
  tags (exprs e es) later ps h =
      let item : Good whole (lay e anywhere (lay_tags true es ps)) = ex e anywhere whole (lay_tags true es ps) refl (tags es true ps h).1 in
      (sp later whole (lay e anywhere (lay_tags true es ps)) item, mk wordy Kind.Comma (blank ∷ lay e anywhere (lay_tags true es ps)) refl refl item)

-- ---- statements

ends : (e : ExprTree) (ps : List Piece) → Good whole ps → Good whole (lay e anywhere (token Kind.Semicolon ∷ ps))
ends e ps h = ex e anywhere whole (token Kind.Semicolon ∷ ps) refl (mk wordy Kind.Semicolon ps refl refl h)

sets : (e : ExprTree) (ps : List Piece) → Good whole ps → Good wordy (blank ∷ token Kind.Assign ∷ blank ∷ lay e anywhere (token Kind.Semicolon ∷ ps))
sets e ps h = before whole Kind.Assign (blank ∷ lay e anywhere (token Kind.Semicolon ∷ ps)) refl (ends e ps h)

tested : (e : ExprTree) (ps : List Piece) → Good whole ps → Good whole (token Kind.ParenOpen ∷ lay e anywhere (token Kind.ParenClose ∷ blank ∷ ps))
tested e ps h = mk whole Kind.ParenOpen (lay e anywhere (token Kind.ParenClose ∷ blank ∷ ps)) refl refl (ex e anywhere whole (token Kind.ParenClose ∷ blank ∷ ps) refl (mk wordy Kind.ParenClose (blank ∷ ps) refl refl h))

value : (e : Option ExprTree) (ps : List Piece) → Good whole ps → Good whole (lay_value e (token Kind.Semicolon ∷ ps))
value None ps h = mk whole Kind.Semicolon ps refl refl h
value (Some e) ps h = ends e ps h

mutual
  sf : (x : StmtForm) (n : ℕ) (ps : List Piece) → Good whole ps → Good whole (lay_stmt_form x n ps)
  sf (let_stmt v e) n ps h =
      let rest = blank ∷ token Kind.Assign ∷ blank ∷ lay e anywhere (token Kind.Semicolon ∷ ps) in
      wd whole Kind.Let (blank ∷ lay_var v rest) refl refl refl (vr v rest (sets e ps h))
  sf (if_stmt e body other) n ps h =
      let rest = lay_else other n ps in
      wd whole Kind.If (blank ∷ token Kind.ParenOpen ∷ lay e anywhere (token Kind.ParenClose ∷ blank ∷ lay_block body n rest)) refl refl refl (tested e (lay_block body n rest) (block body n rest (alternative other n ps h)))
  sf (while_stmt e body) n ps h = wd whole Kind.While (blank ∷ token Kind.ParenOpen ∷ lay e anywhere (token Kind.ParenClose ∷ blank ∷ lay_block body n ps)) refl refl refl (tested e (lay_block body n ps) (block body n ps h))
  sf (return_stmt e) n ps h = wd whole Kind.Return (blank ∷ lay_value e (token Kind.Semicolon ∷ ps)) refl refl refl (value e ps h)
  sf (throw_stmt e) n ps h = wd whole Kind.Throw (blank ∷ lay e anywhere (token Kind.Semicolon ∷ ps)) refl refl refl (ends e ps h)
  sf (sync_stmt e body) n ps h = wd whole Kind.Sync (blank ∷ token Kind.ParenOpen ∷ lay e anywhere (token Kind.ParenClose ∷ blank ∷ lay_block body n ps)) refl refl refl (tested e (lay_block body n ps) (block body n ps h))
  sf (region_stmt l c v b x d) n ps h =
      let last = blank ∷ lay_block d n ps in
      let caught = name x (token Kind.ParenClose ∷ last) in
      let rest = blank ∷ token Kind.Catch ∷ blank ∷ token Kind.ParenOpen ∷ caught in
      let body = blank ∷ lay_block b n rest in
      let captures = token Kind.BracketOpen ∷ lay_names false v (token Kind.BracketClose ∷ body) in
      let caps = token Kind.Comma ∷ blank ∷ lay c anywhere (token Kind.ParenClose ∷ blank ∷ captures) in
      let a : Good whole caught = nm x whole (token Kind.ParenClose ∷ last) refl (mk wordy Kind.ParenClose last refl refl (block d n ps h)) in
      let f : Good whole rest = wd whole Kind.Catch (blank ∷ token Kind.ParenOpen ∷ caught) refl refl refl (mk whole Kind.ParenOpen caught refl refl a) in
      let g : Good whole captures = mk whole Kind.BracketOpen (lay_names false v (token Kind.BracketClose ∷ body)) refl refl (names v false (token Kind.BracketClose ∷ body) (mk wordy Kind.BracketClose body refl refl (block b n rest f))).0 in
      let p : Good wordy caps = mk wordy Kind.Comma (blank ∷ lay c anywhere (token Kind.ParenClose ∷ blank ∷ captures)) refl refl (ex c anywhere whole (token Kind.ParenClose ∷ blank ∷ captures) refl (mk wordy Kind.ParenClose (blank ∷ captures) refl refl g)) in
      wd whole Kind.Region (blank ∷ token Kind.ParenOpen ∷ lay l anywhere caps) refl refl refl (mk whole Kind.ParenOpen (lay l anywhere caps) refl refl (ex l anywhere whole caps refl p))
  sf (do_stmt e) n ps h = ends e ps h
  sf (assign_stmt p e) n ps h = ex p anywhere whole (blank ∷ token Kind.Assign ∷ blank ∷ lay e anywhere (token Kind.Semicolon ∷ ps)) refl (sets e ps h)

  st : (x : StmtTree) (n : ℕ) (ps : List Piece) → Good whole ps → Good whole (lay_stmt x n ps)
  st (stmt_node at form) n ps h = sf form n ps h

  block : (b : StmtList) (n : ℕ) (ps : List Piece) → Good whole ps → Good whole (lay_block b n ps)
  block no_stmts n ps h = mk whole Kind.BraceOpen (blank ∷ token Kind.BraceClose ∷ ps) refl refl (mk whole Kind.BraceClose ps refl refl h)
  block (stmts s b) n ps h =
      let last = line n ∷ token Kind.BraceClose ∷ ps in
      mk whole Kind.BraceOpen (line (n + 1) ∷ lay_stmt s (n + 1) (lay_stmts b (n + 1) last)) refl refl (st s (n + 1) (lay_stmts b (n + 1) last) (sts b (n + 1) last (mk whole Kind.BraceClose ps refl refl h)))

  sts : (b : StmtList) (n : ℕ) (ps : List Piece) → Good whole ps → Good whole (lay_stmts b n ps)
  sts no_stmts n ps h = h
  sts (stmts s b) n ps h = st s n (lay_stmts b n ps) (sts b n ps h)

  alternative : (x : ElseTree) (n : ℕ) (ps : List Piece) → Good whole ps → Good whole (lay_else x n ps)
  alternative no_else n ps h = h
  alternative (else_block b) n ps h = wd whole Kind.Else (blank ∷ lay_block b n ps) refl refl refl (block b n ps h)

-- ---- items

fields : (vs : List VarTree) (ps : List Piece) → Good whole ps → Good whole (lay_fields vs ps)
fields [] ps h = h
fields (v ∷ vs) ps h = vr v (token Kind.Semicolon ∷ lay_fields vs ps) (mk wordy Kind.Semicolon (lay_fields vs ps) refl refl (fields vs ps h))

class_body : (vs : List VarTree) (ps : List Piece) → Good whole ps → Good whole (lay_class_body vs ps)
class_body [] ps h = mk whole Kind.BraceClose ps refl refl h
class_body (v ∷ vs) ps h = fields (v ∷ vs) (line 0 ∷ token Kind.BraceClose ∷ ps) (mk whole Kind.BraceClose ps refl refl h)

class : (c : ClassTree) (ps : List Piece) → Good whole ps → Good whole (lay_class c ps)
class c ps h =
    let rest = blank ∷ token Kind.BraceOpen ∷ lay_class_body c.fields ps in
    wd whole Kind.Class (blank ∷ name c.name rest) refl refl refl (nm c.name whole rest refl (mk whole Kind.BraceOpen (lay_class_body c.fields ps) refl refl (class_body c.fields ps h)))

result_of : (t : Option TypeTree) (ps : List Piece) → Good wordy ps → Good whole (lay_result t ps)
result_of None ps h = loosen ps h
result_of (Some t) ps h = mk whole Kind.Colon (blank ∷ lay_type t ps) refl refl (ty t whole ps refl h)

function : (f : FunctionTree) (ps : List Piece) → Good whole ps → Good whole (lay_function f ps)
function f ps h =
    let body = blank ∷ lay_block f.body 0 ps in
    let rest = token Kind.ParenClose ∷ lay_result f.result body in
    wd whole Kind.Fn (blank ∷ name f.name (token Kind.ParenOpen ∷ lay_vars false f.params rest)) refl refl refl
    (nm f.name whole (token Kind.ParenOpen ∷ lay_vars false f.params rest) refl (mk wordy Kind.ParenOpen (lay_vars false f.params rest) refl refl
    (vars f.params false rest (mk wordy Kind.ParenClose (lay_result f.result body) refl refl (result_of f.result body (block f.body 0 ps h)))).0))

item : (i : ItemTree) (ps : List Piece) → Good whole ps → Good whole (lay_item i ps)
item (class_item c) ps h = class c ps h
item (function_item f) ps h = function f ps h

gp : (later : Bool) (ps : List Piece) → Good whole ps → Good whole (gap later ps)
gp true ps h = h
gp false ps h = h

items : (is : ProgramTree) (later : Bool) (ps : List Piece) → Good whole ps → Good whole (lay_items later is ps)
items [] later ps h = h
items (i ∷ is) later ps h = gp later (lay_item i (line 0 ∷ lay_items true is ps)) (item i (line 0 ∷ lay_items true is ps) (items is true ps h))

pub text_law : TextLaw
text_law p f = parted_are_lexed (pieces p) (items p false [] refl) f
