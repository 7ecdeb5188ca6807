-- The types that a program writes.
use Rattle.lam_syntax.specs.Tree.{TypeTree, type_node, TypeForm, int_type, bool_type, bytes_type, tag_type, label_type, caps_type, file_type, dir_type, pipe_type, thread_type, class_type, array_type}
use Rattle.lam_builtins.specs.Types.{ValueType, int, bool, bytes, tag, label, caps, file, dir, pipe, thread, object, array}

-- the type that is written, whatever its positions
abbrev mutual
  pub written : TypeTree → ValueType
  written (type_node at form) = written_form form

  pub written_form : TypeForm → ValueType
  written_form int_type = int
  written_form bool_type = bool
  written_form bytes_type = bytes
  written_form tag_type = tag
  written_form label_type = label
  written_form caps_type = caps
  written_form file_type = file
  written_form dir_type = dir
  written_form pipe_type = pipe
  written_form thread_type = thread
  written_form (class_type c) = object c
  written_form (array_type t) = array (written t)

-- the tree of a type, with 0 for each position
abbrev pub plain_form : ValueType → TypeForm
plain_form int = int_type
plain_form bool = bool_type
plain_form bytes = bytes_type
plain_form tag = tag_type
plain_form label = label_type
plain_form caps = caps_type
plain_form file = file_type
plain_form dir = dir_type
plain_form pipe = pipe_type
plain_form thread = thread_type
plain_form (object c) = class_type c
plain_form (array t) = array_type (type_node 0 (plain_form t))

abbrev pub plain : ValueType → TypeTree
plain t = type_node 0 (plain_form t)
