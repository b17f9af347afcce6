-- What stores to one of several targets.
use Rattle.py_emission_parts.specs.Elements.{Element, Single, Spread}

-- the value of an element, starred or not
abbrev pub bare_of : {A : Type 0} → Element A A → A
bare_of (Single x) = x
bare_of (Spread x) = x
