use Rattle.std.proofs.Common.{◌≡◌, ◌≤◌, [], drop, length, rules}
use Rattle.std.proofs.Math.ListN.{drop_of_length-le}
use Rattle.py_listing.proofs.numbers.write_places.Goals as goal

pub returns-clause-written : goal.returns-clause-written
returns-clause-written c =
    let few : length c.args.buffer.now ≤ 63 = search rules in
    let none : drop 63 c.args.buffer.now ≡ [] = drop_of_length-le c.args.buffer.now few in
    rw (c.write_marked.ensures.written, c.write_marked-end-2.ensures.written, c.write_marked-end.ensures.written, c.from.ensures, c.from-2.ensures, none)
