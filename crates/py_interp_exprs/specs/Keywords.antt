-- The keywords of a call: whether one is unpacked, and the names of the others.
use Rattle.std.specs.Prelude.{Bool, true, false, Some, None}
use Rattle.py_bytecode.specs.Objects as const
use Rattle.py_bytecode.specs.Objects.{Consts, no_consts, more_consts}
use Rattle.py_tree.specs.Tree as tree

abbrev pub any_unpacked : tree.Keywords → Bool
any_unpacked tree.no_keywords = false
any_unpacked (tree.more_keywords None e ks) = true
any_unpacked (tree.more_keywords (Some name) e ks) = any_unpacked ks

abbrev pub names_of : tree.Keywords → Consts
names_of tree.no_keywords = no_consts
names_of (tree.more_keywords None e ks) = names_of ks
names_of (tree.more_keywords (Some name) e ks) = more_consts (const.str name) (names_of ks)
