-- What is emitted of an access to a name.
use Rattle.std.specs.Prelude.{ℕ, List}
use Rattle.py_bytecode.specs.Values as used
use Rattle.py_bytecode.specs.Values.{Kind, Usage}
use Rattle.py_emission_parts.specs.Emitting.{Emission}
use Rattle.py_emission_parts.specs.Accesses.{emission_of_deleted, emission_of_name, emission_of_stored}
use Rattle.py_emit.specs.declared.context.NameUsage.{NameUsage}
use Rattle.py_emit.specs.declared.context.NameUsage.TheVariants as usage
use Rattle.py_emit.specs.declared.names.Access.{Access}
use Rattle.py_emit.specs.declared.names.Access.TheVariants as access

abbrev pub usage_of : NameUsage → Usage
usage_of usage.Load = used.Load
usage_of usage.Store = used.Store
usage_of usage.Delete = used.Delete

abbrev pub kind_of : Access → Kind
kind_of access.Fast = used.Fast
kind_of access.ByName = used.ByName
kind_of access.Global = used.Global
kind_of access.Deref = used.Deref
kind_of access.ClassDeref = used.ClassDeref

-- `__debug__` is a constant, which nothing changes
abbrev pub emission_of_access : NameUsage → List ℕ → Emission
emission_of_access usage.Load x = emission_of_name x
emission_of_access usage.Store x = emission_of_stored x
emission_of_access usage.Delete x = emission_of_deleted x
