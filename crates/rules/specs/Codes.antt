-- The numbers of the kinds of blocks, of the classes of nodes and of the codes of inputs.
use Rattle.std.specs.Prelude.{ℕ, cond, eqb, List, [], ◌∷◌, Result, Ok, Err}
use Rattle.table.specs.declared.area.Area.TheVariants.{Coils, Discretes, Inputs, Holding}
use Rattle.table.specs.Area.{area_number}
use Rattle.rules.specs.declared.codes.Kind.{Kind}
use Rattle.rules.specs.declared.codes.Kind.TheVariants.{And, Or, Xor, Comp, Cmpr, Mbit, Sens, Brot}
use Rattle.rules.specs.declared.codes.Class.{Class}
use Rattle.rules.specs.declared.codes.Class.TheVariants.{Area as AnArea, Constant}
use Rattle.rules.specs.declared.codes.Source.{Source}
use Rattle.rules.specs.declared.codes.Source.TheVariants.{Never, Always, OpenCoil, ClosedCoil, OpenDiscrete, ClosedDiscrete, TopOutput, MiddleOutput, BottomOutput}
use Rattle.rules.specs.declared.codes.Unknown.{Unknown}

abbrev pub kind_number : Kind → ℕ
kind_number And = 1
kind_number Or = 2
kind_number Xor = 3
kind_number Comp = 4
kind_number Cmpr = 5
kind_number Mbit = 6
kind_number Sens = 7
kind_number Brot = 8

abbrev pub class_number : Class → ℕ
class_number (AnArea a) = area_number a
class_number Constant = 9

abbrev pub source_number : Source → ℕ
source_number Never = 0
source_number Always = 1
source_number OpenCoil = 2
source_number ClosedCoil = 3
source_number OpenDiscrete = 4
source_number ClosedDiscrete = 5
source_number TopOutput = 6
source_number MiddleOutput = 7
source_number BottomOutput = 8

abbrev pub kinds : List Kind
kinds = And ∷ Or ∷ Xor ∷ Comp ∷ Cmpr ∷ Mbit ∷ Sens ∷ Brot ∷ []

abbrev pub classes : List Class
classes = AnArea Coils ∷ AnArea Discretes ∷ AnArea Inputs ∷ AnArea Holding ∷ Constant ∷ []

abbrev pub sources : List Source
sources = Never ∷ Always ∷ OpenCoil ∷ ClosedCoil ∷ OpenDiscrete ∷ ClosedDiscrete ∷ TopOutput ∷ MiddleOutput ∷ BottomOutput ∷ []

-- what a number stands for: the one of a list that has this number
abbrev pub standing_for : {A : Type 0} → (A → ℕ) → List A → ℕ → Result A Unknown
standing_for number [] n = Err (record {})
standing_for number (x ∷ xs) n = cond (eqb n (number x)) (Ok x) (standing_for number xs n)

abbrev pub kind_from : ℕ → Result Kind Unknown
kind_from n = standing_for kind_number kinds n

abbrev pub class_from : ℕ → Result Class Unknown
class_from n = standing_for class_number classes n

abbrev pub source_from : ℕ → Result Source Unknown
source_from n = standing_for source_number sources n
