-- What a reader opens first, and what it defines. The other files serve these or the proofs.
-- `Rules`: the names of the declaring rules
-- `Lists`: the lists of a call
-- `Attributes`: the lists of `project`
-- `Targets`: main targets, and the names that none has
-- `Tests`: the lists, names and markers of tests
-- `Declarations`: whether lists have the shape of a rule, what they declare (a row a rule each), and which declarations are
--   refused for a name
-- `References`: the values of dependency properties
-- `Directories`: which directories a declaration names

pub mod Lists
pub mod Rules
pub mod References
pub mod Attributes
pub mod Targets
pub mod Tests
pub mod Declarations
pub mod Directories
pub mod Laws
