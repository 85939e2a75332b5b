pub mod PortLists
