use Rattle.std.proofs.Common.{subst, ◌++◌, codes, decimal}
use Rattle.std.specs.Fmt.{HasWritten}
use Rattle.py_scope.proofs.table.SymbolTableDebug.fmt.Goals as goal

-- the numbers that are written are those of the symbols and of the nested tables
pub returns : goal.returns
returns g c = record {
  writes = λ plain done.
      subst (λ text. HasWritten {W = g.row.W.Denot} g.W.Write.write_str_gives c.args.f.now text c.write.new.self)
      (λ i. codes "SymbolTable(" ++ (decimal (c.len.ensures.len i) ++ (codes " symbols, " ++ (decimal (c.len-2.ensures i) ++ codes " sub scopes)"))))
      (c.write.ensures.writes plain done);
}
