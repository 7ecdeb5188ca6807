-- The forms of a primary expression, by the token with which it begins.
use Rattle.std.specs.Prelude.{Option, Some, None}
use Rattle.lam_lexer.specs.declared.token.Token.{Token}
use Rattle.lam_lexer.specs.declared.token.TokenKind.{TokenKind}
use Rattle.lam_lexer.specs.declared.token.TokenKind.TheVariants as kind
use Rattle.lam_parser_parts.specs.declared.primary.Form.{Form}
use Rattle.lam_parser_parts.specs.declared.primary.Form.TheVariants as form

abbrev pub kind_form : TokenKind → Form
kind_form k = elim k [ kind.Number n ↦ form.Literal | kind.Text b ↦ form.Literal | kind.True ↦ form.Literal | kind.False ↦ form.Literal | kind.Null ↦ form.Literal | kind.ParenOpen ↦ form.Parens | kind.Id x ↦ form.Name | kind.New ↦ form.New | kind.Label ↦ form.Label | kind.Caps ↦ form.Caps | kind.Spawn ↦ form.Spawn | _ ↦ form.Other ]

abbrev pub form_of : Option Token → Form
form_of None = form.Other
form_of (Some w) = kind_form w.kind
