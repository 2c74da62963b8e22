pub mod SearchedAgain
